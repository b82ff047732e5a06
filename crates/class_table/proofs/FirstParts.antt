-- The first part of a node.
use Rattle.std.proofs.Common.{◌≡◌, ◌==◌, ℕ, ◌<◌, ◌≤◌, true, false, List, length, get_or, drop, ◌∙◌, sym, arith}
use Rattle.std.proofs.lemmas.Bool.{eqb-true, eqb-false}
use Rattle.rw_base.specs.declared.tree.NodeId.{NodeId}
use Rattle.rw_base.specs.declared.tree.Part.{Part}
use Rattle.rw_base.specs.declared.tree.Part.TheVariants as part
use Rattle.rw_base.specs.Arena.{Arena, kind_of}
use Rattle.rw_base.specs.Trees.{none, leaf, node}
use Rattle.rw_base.specs.Laid.{kids_of, forest_of}
use Rattle.class_table.specs.Words.{word_of, parts_at, trees_of}
use Rattle.class_table.proofs.Steps.{at_start, at_leaf, at_node, at_end}

module _ (t : Arena) (bytes : List ℕ) (n : ℕ) (ps : List Part) (kids : kids_of t.nodes n ≡ forest_of t.nodes ps) where
  pub first_leaf : (d : Part) (i : ℕ) → 0 < length ps → get_or ps 0 d ≡ part.Leaf i
      → parts_at t bytes n ≡ leaf (word_of t bytes i) (trees_of t bytes (drop 1 ps))
  first_leaf d i lt e = at_start t bytes n ps kids ∙ at_leaf t bytes ps 0 d i lt e

  pub first_node : (d : Part) (m : NodeId) → 0 < length ps → get_or ps 0 d ≡ part.Node m
      → parts_at t bytes n ≡ node tt (kind_of t.nodes m.0) (parts_at t bytes m.0) (trees_of t bytes (drop 1 ps))
  first_node d m lt e = at_start t bytes n ps kids ∙ at_node t bytes ps 0 d m lt e

  pub no_first : length ps ≤ 0 → parts_at t bytes n ≡ none
  no_first le = at_start t bytes n ps kids ∙ at_end t bytes ps 0 le

-- whether there is a first part
pub is_none : (n : ℕ) → true ≡ (n == 0) → n ≤ 0
is_none n e = omega (arith, eqb-true n 0 (sym e))

pub is_there : (n : ℕ) → false ≡ (n == 0) → 0 < n
is_there n e = let ne = eqb-false n 0 (sym e) in omega (arith, ne)
