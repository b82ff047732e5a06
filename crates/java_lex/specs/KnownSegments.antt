-- How long segments are.
use Rattle.std.specs.Prelude.{ℕ, max, List, [], ◌∷◌, length}
use Rattle.rw_base.specs.declared.tree.Leaf.{Leaf}

-- how many leaves the longest segment has
abbrev pub longest_of : List (List Leaf) → ℕ
longest_of [] = 0
longest_of (p ∷ ps) = max (length p) (longest_of ps)
