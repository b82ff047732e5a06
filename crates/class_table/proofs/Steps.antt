-- One part further: what the trees of the parts from the k-th on begin with.
use Rattle.std.proofs.Common.{◌≡◌, ◌≢◌, ◌==◌, ℕ, ◌+◌, ◌<◌, ◌≤◌, List, length, get_or, drop, ap, Bool, true, false}
use Rattle.std.proofs.Common.{if◌then◌else◌}
use Rattle.std.proofs.lemmas.Bool.{eq-eqb, ne_eqb}
use Rattle.rw_base.specs.declared.tree.NodeId.{NodeId}
use Rattle.rw_base.specs.declared.tree.Part.{Part}
use Rattle.rw_base.specs.declared.tree.Part.TheVariants as part
use Rattle.rw_base.specs.Arena.{Arena, kind_of}
use Rattle.rw_base.specs.Trees.{none, leaf, node, relabel}
use Rattle.rw_base.specs.Laid.{kids_of, forest_of}
use Rattle.rw_base.specs.RelabelLaws.{leaf_next_as, node_next_as, none_next_as}
use Rattle.class_table.specs.Words.{word_of, parts_at, trees_of}

module _ (t : Arena) (bytes : List ℕ) where
  pub at_start : (n : ℕ) (ps : List Part) → kids_of t.nodes n ≡ forest_of t.nodes ps
      → parts_at t bytes n ≡ trees_of t bytes ps
  unfolding parts_at trees_of
  at_start n ps e = ap (relabel (λ _. tt) (word_of t bytes)) e

  module _ (ps : List Part) (k : ℕ) where
    pub at_leaf : (d : Part) (i : ℕ) → k < length ps → get_or ps k d ≡ part.Leaf i
        → trees_of t bytes (drop k ps) ≡ leaf (word_of t bytes i) (trees_of t bytes (drop (k + 1) ps))
    unfolding trees_of
    at_leaf d i lt e = leaf_next_as (λ _. tt) (word_of t bytes) t.nodes ps k d i lt e

    pub at_node : (d : Part) (m : NodeId) → k < length ps → get_or ps k d ≡ part.Node m
        → trees_of t bytes (drop k ps)
        ≡ node tt (kind_of t.nodes m.0) (parts_at t bytes m.0) (trees_of t bytes (drop (k + 1) ps))
    unfolding trees_of parts_at
    at_node d m lt e = node_next_as (λ _. tt) (word_of t bytes) t.nodes ps k d m lt e

    pub at_end : length ps ≤ k → trees_of t bytes (drop k ps) ≡ none
    unfolding trees_of
    at_end le = none_next_as (λ _. tt) (word_of t bytes) t.nodes ps k le

-- ---- tests

pub when : {A : Type 0} (x y : A) (a c : ℕ) → a ≡ c → (if a == c then x else y) ≡ x
when x y a c e = ap (λ b. if b then x else y) (eq-eqb a c e)

pub unless : {A : Type 0} (x y : A) (a c : ℕ) → a ≢ c → (if a == c then x else y) ≡ y
unless x y a c e = ap (λ b. if b then x else y) (ne_eqb a c e)

pub choose : {A : Type 0} {b : Bool} (x y : A) → b ≡ true → (if b then x else y) ≡ x
choose x y e = ap (λ b. if b then x else y) e

pub otherwise : {A : Type 0} {b : Bool} (x y : A) → b ≡ false → (if b then x else y) ≡ y
otherwise x y e = ap (λ b. if b then x else y) e
