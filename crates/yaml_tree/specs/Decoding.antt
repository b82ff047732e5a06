-- What the small functions give that decode scalars.
use Rattle.std.specs.Prelude.{ℕ, ◌+◌, ◌<◌, ◌≤◌, List, [], ◌∷◌, if◌then◌else◌}
use Rattle.rw_base.specs.declared.tree.NodeRow.{NodeRow}
use Rattle.rw_base.specs.Arena.{first_of, past_of}
use Rattle.yaml_lex.specs.Characters.{is_line_end, is_continuation}

-- the column behind one more byte, and behind a text
abbrev pub next_column : ℕ → ℕ → ℕ
next_column column b = if is_line_end b then 0 else if is_continuation b then column else column + 1

abbrev pub column_behind : ℕ → List ℕ → ℕ
column_behind column [] = column
column_behind column (b ∷ rest) = column_behind (next_column column b) rest

-- leaf i is one of those of node n
abbrev pub HasLeaf : List NodeRow → ℕ → ℕ → Type 0
HasLeaf rows i n = (first_of rows n ≤ i) × (i < past_of rows n)
