-- Loops over parts that gather what nodes give: one part further.
use Rattle.std.proofs.Common.{◌≡◌, ◌∙◌, ℕ, ◌+◌, ◌<◌, ◌≤◌, List, [], ◌++◌, length, get_or, drop, ap, sym, refl}
use Rattle.std.proofs.Common.{append_assoc, append-nil}
use Rattle.std.specs.Prelude.{All}
use Rattle.std.proofs.lemmas.List.Elements.{All-nil, All-append, All-same}
use Rattle.rw_base.specs.declared.tree.NodeId.{NodeId}
use Rattle.rw_base.specs.declared.tree.Part.{Part}
use Rattle.rw_base.specs.declared.tree.Part.TheVariants as part
use Rattle.rw_base.specs.Arena.{Arena, AreBelow, kind_of}
use Rattle.rw_base.specs.Trees.{none, leaf, node, Numbered}
use Rattle.rw_base.specs.Laid.{kids_of, forest_of}
use Rattle.rw_base.specs.PartLaws.{leaf_next, node_next, none_next, below_next}

-- of some trees, in order, what each node gives by its kind and its own trees
pub record Gathers {A : Type 0} (all : Numbered → List A) (own : ℕ → Numbered → List A) : Type 0 where
  pub skips : (i : ℕ) (f : Numbered) → all (leaf i f) ≡ all f
  pub adds : (n k : ℕ) (kids f : Numbered) → all (node n k kids f) ≡ own k kids ++ all f
  pub ends : all none ≡ []

-- where a loop stands at the k-th part: what is put behind `old`, and P of all that is put before the k-th part
pub record Walking {A : Type 0} (P : A → Type 0) (all : Numbered → List A) (t : Arena) (ps : List Part)
    (old out : List A) (k : ℕ) : Type 0 where
  pub same : out ++ all (forest_of t.nodes (drop k ps)) ≡ old ++ all (forest_of t.nodes ps)
  pub holds : All P (all (forest_of t.nodes (drop k ps))) → All P (all (forest_of t.nodes ps))
  pub below : AreBelow (length t.leaves) (length t.nodes) (drop k ps)

module _ {A : Type 0} (P : A → Type 0) {all : Numbered → List A} {own : ℕ → Numbered → List A} (g : Gathers all own)
    (t : Arena) (ps : List Part) (old : List A) where
  pub walk_start : AreBelow (length t.leaves) (length t.nodes) ps → Walking P all t ps old old 0
  walk_start below = record { same = refl; holds = λ h. h; below = below }

  module _ (out : List A) (k : ℕ) (w : Walking P all t ps old out k) where
    pub walk_leaf : (d : Part) (i : ℕ) → k < length ps → get_or ps k d ≡ part.Leaf i
        → Walking P all t ps old out (k + 1)
    walk_leaf d i lt is =
        let rest = forest_of t.nodes (drop (k + 1) ps) in
        let next = ap all (leaf_next t.nodes ps k d i lt is) ∙ g.skips i rest in
        record {
          same = ap (λ x. out ++ x) (sym next) ∙ w.same;
          holds = λ h. w.holds (All-same P _ _ next h);
          below = below_next (length t.leaves) (length t.nodes) ps k w.below lt;
        }

    pub walk_node : (d : Part) (m : NodeId) (here new : List A) → k < length ps → get_or ps k d ≡ part.Node m
        → own (kind_of t.nodes m.0) (kids_of t.nodes m.0) ≡ here → new ≡ out ++ here → All P here
        → Walking P all t ps old new (k + 1)
    walk_node d m here new lt is gives added each =
        let rest = forest_of t.nodes (drop (k + 1) ps) in
        let next = ap all (node_next t.nodes ps k d m lt is)
        ∙ (g.adds m.0 (kind_of t.nodes m.0) (kids_of t.nodes m.0) rest ∙ ap (λ x. x ++ all rest) gives) in
        record {
          same = ap (λ x. x ++ all rest) added
              ∙ (append_assoc out here (all rest) ∙ (ap (λ x. out ++ x) (sym next) ∙ w.same));
          holds = λ h. w.holds (All-same P _ _ next (All-append P here (all rest) each h));
          below = below_next (length t.leaves) (length t.nodes) ps k w.below lt;
        }

    -- a node that gives nothing
    pub walk_other : (d : Part) (m : NodeId) → k < length ps → get_or ps k d ≡ part.Node m
        → own (kind_of t.nodes m.0) (kids_of t.nodes m.0) ≡ [] → Walking P all t ps old out (k + 1)
    walk_other d m lt is gives = walk_node d m [] out lt is gives (sym (append-nil out)) (All-nil P)

    pub walk_end : length ps ≤ k → out ≡ old ++ all (forest_of t.nodes ps)
    walk_end le =
        sym (append-nil out) ∙ (ap (λ x. out ++ x) (sym (ap all (none_next t.nodes ps k le) ∙ g.ends)) ∙ w.same)

    pub all_hold : length ps ≤ k → All P (all (forest_of t.nodes ps))
    all_hold le = w.holds (All-same P _ _ (ap all (none_next t.nodes ps k le) ∙ g.ends) (All-nil P))
