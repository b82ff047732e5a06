-- How the leaves of a file lie.
use Rattle.std.specs.Prelude.{◌≡◌, ℕ, ◌+◌, ◌*◌, ◌-◌, ◌≤◌, List, length, Option}
use Rattle.rw_base.specs.declared.tree.Leaf.{Leaf}
use Rattle.rw_base.specs.declared.leaves.Bad.{Bad}
use Rattle.rw_base.specs.Arena.{leaf_at}
use Rattle.rw_base.specs.Cut.{AreCutLeaves}
use Rattle.yaml_lex.specs.declared.class.TheConstants.{END}

-- The leaves lie one behind another from the first byte to the bad place, or to the end of the file. The last of them
-- is the end, of the class END with an empty text, and there are at most three others for each byte: `-` has OPENS,
-- DASH and CLOSE.
pub record AreTiles (bytes : List ℕ) (leaves : List Leaf) (bad : Option Bad) : Type 0 where
  pub cut : AreCutLeaves bytes leaves bad
  pub few : length leaves ≤ 3 * length bytes + 1
  pub end_class : (leaf_at leaves (length leaves - 1)).class ≡ END
