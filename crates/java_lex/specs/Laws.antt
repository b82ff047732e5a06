-- The words in which the laws of leaves are written.
use Rattle.std.specs.Prelude.{◌≡◌, ℕ, ◌+◌, ◌-◌, ◌<◌, ◌==◌, ◌||◌, Bool, true, List, [], ◌∷◌, ◌++◌, slice_index}
use Rattle.std.specs.Prelude.{Option, Some, None}
use Rattle.rw_base.specs.declared.tree.Leaf.{Leaf}
use Rattle.rw_base.specs.declared.leaves.Bad.{Bad}

-- numbers that are bytes
abbrev pub AreBytes : List ℕ → Type 0
AreBytes s = (i : ℕ) → slice_index s i < 256

-- the characters that are a leaf alone, whatever follows: `;`, `{` and `}`
abbrev pub is_alone : ℕ → Bool
is_alone b = (b == 59) || (b == 123) || (b == 125)

-- The leaf l of a text that begins at byte `at` is such a character.
pub record IsAloneAt (at : ℕ) (s : List ℕ) (l : Leaf) : Type 0 where
  pub one : l.to ≡ l.from + 1
  pub is : is_alone (slice_index s (l.from - at)) ≡ true

-- the leaves begin with these and this one
abbrev pub LeavesBeginWith : List Leaf → List Leaf → Leaf → Type 0
LeavesBeginWith leaves front l = (rest : List Leaf) × (leaves ≡ front ++ l ∷ rest)

-- leaves and a bad place so many bytes further on
abbrev pub offset_leaf : ℕ → Leaf → Leaf
offset_leaf by l = record { prefix_from = l.prefix_from + by; from = l.from + by; to = l.to + by; class = l.class }

abbrev pub offset_leaves : ℕ → List Leaf → List Leaf
offset_leaves by [] = []
offset_leaves by (l ∷ ls) = offset_leaf by l ∷ offset_leaves by ls

abbrev pub offset_bad : ℕ → Option Bad → Option Bad
offset_bad by None = None
offset_bad by (Some bad) = Some (record { byte = bad.byte + by; cause = bad.cause })
