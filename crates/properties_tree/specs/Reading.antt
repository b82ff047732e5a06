-- How far a file is read: which leaves and nodes stand, and which are still to come. No public clause stands on this.
use Rattle.std.specs.Prelude.{◌≡◌, ℕ, zero, suc, ◌+◌, ◌-◌, ◌*◌, ◌≤◌, List, [], ◌∷◌, ◌++◌, length, take, drop}
use Rattle.rw_base.specs.declared.tree.Leaf.{Leaf}
use Rattle.rw_base.specs.declared.tree.NodeRow.{NodeRow}
use Rattle.rw_base.specs.declared.tree.Part.{Part}
use Rattle.rw_base.specs.declared.tree.Part.TheVariants as part
use Rattle.properties_tree.specs.Entries.{Properties, properties_of}
use Rattle.properties_tree.specs.Layout.{leaves_from, entry_rows}
use Rattle.properties_tree.specs.Sizes.{entries_from}
use Rattle.properties_tree.specs.declared.reader.Sizes.{Sizes}
use Rattle.properties_tree.specs.declared.layout.TheConstants.{KEY, SEPARATOR, VALUE, ENDING}

-- the four leaves of an entry whose line begins at a byte and whose prefix begins before it
abbrev pub leaves_at : ℕ → ℕ → Sizes → List Leaf
leaves_at from at z =
    let key = at + z.blanks in
    let separator = key + z.key in
    let value = separator + z.separator in
    let ending = value + z.value in
    record { prefix_from = from; from = key; to = separator; class = KEY }
    ∷ record { prefix_from = separator; from = separator; to = value; class = SEPARATOR }
    ∷ record { prefix_from = value; from = value; to = ending; class = VALUE }
    ∷ record { prefix_from = ending; from = ending; to = ending + z.ending; class = ENDING }
    ∷ []

-- what the bytes from a place on still say, where the prefix so far began at a byte
abbrev pub left_of : List ℕ → ℕ → ℕ → Properties
left_of bytes from at = entries_from (take (at - from) (drop from bytes)) (drop at bytes)

-- the leaves of what a file says from a byte on
abbrev pub leaves_of : ℕ → Properties → List Leaf
leaves_of at p = leaves_from at p.entries p.rest

-- These leaves and rows stand, all before this place is read, and the prefix so far began at a byte.
pub record IsRead (bytes : List ℕ) (written : List Leaf) (rows : List NodeRow) (from at : ℕ) : Type 0 where
  pub leaves : leaves_of 0 (properties_of bytes) ≡ written ++ leaves_of from (left_of bytes from at)
  pub nodes :
      entry_rows 0 (properties_of bytes).entries ≡ rows ++ entry_rows (length rows) (left_of bytes from at).entries
  pub count : length (properties_of bytes).entries ≡ length rows + length (left_of bytes from at).entries
  pub four : length written ≡ 4 * length rows
  pub few : length rows ≤ at
  pub ordered : from ≤ at
  pub inside : at ≤ length bytes

-- so many entries, from this number on, as parts
abbrev pub numbered_parts : ℕ → ℕ → List Part
numbered_parts n zero = []
numbered_parts n (suc count) = part.Node (record { 0 = n }) ∷ numbered_parts (n + 1) count
