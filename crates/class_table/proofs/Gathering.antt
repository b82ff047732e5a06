-- Loops that gather what nodes give: one part further.
use Rattle.std.proofs.Common.{◌≡◌, ℕ, ◌+◌, ◌<◌, ◌≤◌, List, [], ◌∷◌, ◌++◌, Bool, true, false, length, get_or, drop, ap}
use Rattle.std.proofs.Common.{sym}
use Rattle.std.proofs.Common.{◌∙◌, refl, append_assoc, append-nil, if◌then◌else◌}
use Rattle.rw_base.specs.declared.tree.NodeId.{NodeId}
use Rattle.rw_base.specs.declared.tree.Part.{Part}
use Rattle.rw_base.specs.declared.tree.Part.TheVariants as part
use Rattle.rw_base.specs.Arena.{Arena, kind_of}
use Rattle.rw_base.specs.Trees.{none, leaf, node}
use Rattle.class_table.specs.Words.{Word, Parts, word_of, parts_at, trees_of}
use Rattle.class_table.specs.Finding.{of_nodes}
use Rattle.class_table.proofs.Steps.{at_start, at_leaf, at_node, at_end}

-- h gathers what g gives for each node
module _ {A : Type 0} (h : Parts → List A) (g : ℕ → Parts → List A)
    (skips : (w : Word) (f : Parts) → h (leaf w f) ≡ h f)
    (adds : (k : ℕ) (kids f : Parts) → h (node tt k kids f) ≡ g k kids ++ h f) (ends : h none ≡ [])
    (t : Arena) (bytes : List ℕ) (ps : List Part) (k : ℕ) (out all : List A)
    (so_far : out ++ h (trees_of t bytes (drop k ps)) ≡ all) where
  pub over_leaf : (d : Part) (i : ℕ) → k < length ps → get_or ps k d ≡ part.Leaf i
      → out ++ h (trees_of t bytes (drop (k + 1) ps)) ≡ all
  over_leaf d i lt e =
      ap (λ x. out ++ x)
      (sym (ap h (at_leaf t bytes ps k d i lt e) ∙ skips (word_of t bytes i) (trees_of t bytes (drop (k + 1) ps))))
      ∙ so_far

  pub over_node : (d : Part) (m : NodeId) (new : List A) → k < length ps → get_or ps k d ≡ part.Node m
      → new ≡ out ++ g (kind_of t.nodes m.0) (parts_at t bytes m.0)
      → new ++ h (trees_of t bytes (drop (k + 1) ps)) ≡ all
  over_node d m new lt e is =
      let here = g (kind_of t.nodes m.0) (parts_at t bytes m.0) in
      let rest = trees_of t bytes (drop (k + 1) ps) in
      ap (λ x. x ++ h rest) is
      ∙ (append_assoc out here (h rest)
      ∙ (ap (λ x. out ++ x)
      (sym (ap h (at_node t bytes ps k d m lt e) ∙ adds (kind_of t.nodes m.0) (parts_at t bytes m.0) rest))
      ∙ so_far))

  pub over_end : length ps ≤ k → out ≡ all
  over_end le = sym (append-nil out) ∙ (ap (λ x. out ++ x) (sym (ap h (at_end t bytes ps k le) ∙ ends)) ∙ so_far)

-- the same where it is `of_nodes`, and g takes one thing of the nodes that pass a test
module _ {A : Type 0} (g : ℕ → Parts → List A) (t : Arena) (bytes : List ℕ) (ps : List Part) (k : ℕ) (out all : List A)
    (so_far : out ++ of_nodes g (trees_of t bytes (drop k ps)) ≡ all) where
  pub leaf_of : (d : Part) (i : ℕ) → k < length ps → get_or ps k d ≡ part.Leaf i
      → out ++ of_nodes g (trees_of t bytes (drop (k + 1) ps)) ≡ all
  leaf_of = over_leaf (of_nodes g) g (λ w f. refl) (λ n kids f. refl) refl t bytes ps k out all so_far

  pub node_of : (d : Part) (m : NodeId) (new : List A) → k < length ps → get_or ps k d ≡ part.Node m
      → new ≡ out ++ g (kind_of t.nodes m.0) (parts_at t bytes m.0)
      → new ++ of_nodes g (trees_of t bytes (drop (k + 1) ps)) ≡ all
  node_of = over_node (of_nodes g) g (λ w f. refl) (λ n kids f. refl) refl t bytes ps k out all so_far

  pub end_of_nodes : length ps ≤ k → out ≡ all
  end_of_nodes = over_end (of_nodes g) g (λ w f. refl) (λ n kids f. refl) refl t bytes ps k out all so_far

-- h gathers what g gives for each word
module _ {A : Type 0} (h : Parts → List A) (g : Word → List A)
    (takes : (w : Word) (f : Parts) → h (leaf w f) ≡ g w ++ h f)
    (skips : (k : ℕ) (kids f : Parts) → h (node tt k kids f) ≡ h f) (ends : h none ≡ [])
    (t : Arena) (bytes : List ℕ) (ps : List Part) (k : ℕ) (out all : List A)
    (so_far : out ++ h (trees_of t bytes (drop k ps)) ≡ all) where
  pub word_more : (d : Part) (i : ℕ) (new : List A) → k < length ps → get_or ps k d ≡ part.Leaf i
      → new ≡ out ++ g (word_of t bytes i) → new ++ h (trees_of t bytes (drop (k + 1) ps)) ≡ all
  word_more d i new lt e is =
      let here = g (word_of t bytes i) in
      let rest = trees_of t bytes (drop (k + 1) ps) in
      ap (λ x. x ++ h rest) is
      ∙ (append_assoc out here (h rest)
      ∙ (ap (λ x. out ++ x) (sym (ap h (at_leaf t bytes ps k d i lt e) ∙ takes (word_of t bytes i) rest)) ∙ so_far))

  pub no_word : (d : Part) (m : NodeId) → k < length ps → get_or ps k d ≡ part.Node m
      → out ++ h (trees_of t bytes (drop (k + 1) ps)) ≡ all
  no_word d m lt e =
      ap (λ x. out ++ x)
      (sym (ap h (at_node t bytes ps k d m lt e)
      ∙ skips (kind_of t.nodes m.0) (parts_at t bytes m.0) (trees_of t bytes (drop (k + 1) ps))))
      ∙ so_far

  pub words_end : length ps ≤ k → out ≡ all
  words_end le = sym (append-nil out) ∙ (ap (λ x. out ++ x) (sym (ap h (at_end t bytes ps k le) ∙ ends)) ∙ so_far)
