-- The fields of a member, by its first part.
use Rattle.std.proofs.Common.{◌≡◌, ℕ, List, [], ◌∷◌, length, ap, arith}
use Rattle.rw_base.specs.declared.tree.Leaf.{Leaf}
use Rattle.rw_base.specs.declared.tree.NodeId.{NodeId}
use Rattle.rw_base.specs.declared.tree.NodeRow.{NodeRow}
use Rattle.rw_base.specs.declared.tree.Part.{Part}
use Rattle.rw_base.specs.declared.tree.Part.TheVariants as part
use Rattle.rw_base.specs.Arena.{kind_of}
use Rattle.rw_base.specs.Laid.{forest_of}
use Rattle.rw_base.specs.PartLaws.{forest_nil, forest_leaf, forest_node}
use Rattle.written_bodies.specs.Bodies.{fields_behind, fields_of_member}

module _ (ls : List Leaf) (rows : List NodeRow) where
  pub of_nothing : (ps : List Part) → length ps ≡ 0 → fields_of_member ls (forest_of rows ps) ≡ []
  of_nothing [] e = ap (fields_of_member ls) (forest_nil rows)
  of_nothing (p ∷ ps) e = absurd (omega arith)

  module _ (ps rest : List Part) where
    pub of_word : (p : Part) (i : ℕ) → ps ≡ p ∷ rest → p ≡ part.Leaf i
        → fields_of_member ls (forest_of rows ps) ≡ []
    of_word p i e is = rw (e, is) (ap (fields_of_member ls) (forest_leaf rows i rest))

    pub of_typed : (p : Part) (m : NodeId) → ps ≡ p ∷ rest → p ≡ part.Node m
        → fields_of_member ls (forest_of rows ps) ≡ fields_behind ls m.0 (kind_of rows m.0) (forest_of rows rest)
    of_typed p m e is = rw (e, is) (ap (fields_of_member ls) (forest_node rows m rest))
