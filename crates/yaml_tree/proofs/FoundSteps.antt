-- What is found from the parts that are left, one part further.
use Rattle.std.proofs.Common.{◌≡◌, ℕ, ◌+◌, ◌<◌, ◌≤◌}
use Rattle.std.proofs.Common.{List, [], ◌∷◌, ◌++◌, length, get_or}
use Rattle.std.proofs.Common.{drop, refl, sym, ap, ◌∙◌, arith, append_assoc, append-nil}
use Rattle.std.specs.Prelude.{Option, Some, None, IfSome}
use Rattle.rw_base.specs.declared.tree.NodeId.{NodeId}
use Rattle.rw_base.specs.declared.tree.NodeRow.{NodeRow}
use Rattle.rw_base.specs.declared.tree.Part.{Part}
use Rattle.rw_base.specs.declared.tree.Part.TheVariants as part
use Rattle.rw_base.specs.Arena.{kind_of}
use Rattle.rw_base.specs.Trees.{Numbered, none, leaf, node}
use Rattle.rw_base.specs.Laid.{kids_of, forest_of}
use Rattle.rw_base.specs.PartLaws.{leaf_next, node_next, none_next}
use Rattle.yaml_tree.specs.declared.key_path.PathStep.{PathStep}
use Rattle.yaml_tree.specs.Entries.{node_first}
use Rattle.yaml_tree.specs.Found.{Search, at_first, at_inner, from_node, found}
use Rattle.yaml_tree.specs.Finding.{at_node}

-- F is what is found from trees, one after another.
module _ (F : Numbered → List NodeId) (at : ℕ → ℕ → Numbered → List NodeId)
    (rows : List NodeRow) (ps : List Part) (all out : List NodeId) where
  pub walk_end : F none ≡ [] → (k : ℕ) → length ps ≤ k → out ++ F (forest_of rows (drop k ps)) ≡ all → out ≡ all
  walk_end nothing k le w =
      sym (append-nil out)
      ∙ (ap (λ x. out ++ x) (sym nothing)
      ∙ (ap (λ (g : Numbered). out ++ F g) (sym (none_next rows ps k le)) ∙ w))

  pub walk_leaf : ((l : ℕ) (g : Numbered) → F (leaf l g) ≡ F g) → (k : ℕ) (d : Part) (lt : k < length ps) (i : ℕ)
      → get_or ps k d ≡ part.Leaf i → out ++ F (forest_of rows (drop k ps)) ≡ all
      → out ++ F (forest_of rows (drop (k + 1) ps)) ≡ all
  walk_leaf over k d lt i e w =
      ap (λ x. out ++ x) (sym (over i (forest_of rows (drop (k + 1) ps))))
      ∙ (ap (λ (g : Numbered). out ++ F g) (sym (leaf_next rows ps k d i lt e)) ∙ w)

  pub walk_node : ((n kind : ℕ) (kids g : Numbered) → F (node n kind kids g) ≡ at n kind kids ++ F g)
      → (k : ℕ) (d : Part) (lt : k < length ps) (m : NodeId) (new : List NodeId) → get_or ps k d ≡ part.Node m
      → new ≡ out ++ at m.0 (kind_of rows m.0) (kids_of rows m.0)
      → out ++ F (forest_of rows (drop k ps)) ≡ all
      → new ++ F (forest_of rows (drop (k + 1) ps)) ≡ all
  walk_node over k d lt m new e is w =
      let here = at m.0 (kind_of rows m.0) (kids_of rows m.0) in
      let rest = F (forest_of rows (drop (k + 1) ps)) in
      ap (λ x. x ++ rest) is
      ∙ (append_assoc out here rest
      ∙ (ap (λ x. out ++ x) (sym (over m.0 (kind_of rows m.0) (kids_of rows m.0) (forest_of rows (drop (k + 1) ps))))
      ∙ (ap (λ (g : Numbered). out ++ F g) (sym (node_next rows ps k d m lt e)) ∙ w)))

-- what is found at the first of the trees behind some, by their first node
pub first_found : (rows : List NodeRow) (f : Search) (o : Option NodeId) (g : Numbered) (rest : NodeId → Numbered)
    → o ≡ node_first g → IfSome o (λ m. g ≡ node m.0 (kind_of rows m.0) (kids_of rows m.0) (rest m))
    → at_first f g ≡ at_node rows f o
first_found rows f (Some m) g rest e h = ap (at_first f) h
first_found rows f None none rest e h = refl
first_found rows f None (leaf l g) rest e h = refl
first_found rows f None (node n kind kids g) rest e h = absurd (cc)

pub found_more : (class : ℕ → ℕ) (text : ℕ → Option (List ℕ)) (step : PathStep) (steps : List PathStep) (kind : ℕ)
    (kids : Numbered)
    → found class text (step ∷ steps) kind kids
    ≡ at_inner (from_node class text step steps (found class text steps)) kind kids
unfolding found
found_more class text step steps kind kids = refl

pub found_none : (class : ℕ → ℕ) (text : ℕ → Option (List ℕ)) (kind : ℕ) (kids : Numbered)
    → found class text [] kind kids ≡ []
unfolding found
found_none class text kind kids = refl

-- what steps find from a node whose inner one is known
pub found_at : (rows : List NodeRow) (class : ℕ → ℕ) (text : ℕ → Option (List ℕ)) (steps : List PathStep)
    (d : PathStep) (n : ℕ) (o : Option NodeId) → 0 < length steps
    → ((f : Search) → at_inner f (kind_of rows n) (kids_of rows n) ≡ at_node rows f o)
    → found class text steps (kind_of rows n) (kids_of rows n)
    ≡ at_node rows (from_node class text (get_or steps 0 d) (drop 1 steps) (found class text (drop 1 steps))) o
found_at rows class text [] d n o some h = absurd (omega arith)
found_at rows class text (step ∷ steps) d n o some h =
    found_more class text step steps (kind_of rows n) (kids_of rows n)
    ∙ h (from_node class text step steps (found class text steps))
