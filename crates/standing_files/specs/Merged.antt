-- What the changes do to the paths of a store, for private functions alone. Paths and changes are in order.
use Rattle.std.specs.Prelude.{ℕ, Bool, cond, List, [], ◌∷◌, ◌++◌, Option, None, Some}
use Rattle.std.specs.Ordering.{nat_cmp, is_lt, eq_by_cmp}
use Rattle.std.specs.Cmp.Lexicographic.{slice_cmp}
use Rattle.journal_text.specs.Changes.{Change}

-- the path, where it has bytes
abbrev pub held : List ℕ → Option (List ℕ) → List (List ℕ)
held path None = []
held path (Some bytes) = path ∷ []

-- the paths that get bytes
abbrev pub created : List Change → List (List ℕ)
created [] = []
created (change ∷ changes) = held change.0 change.1 ++ created changes

abbrev pub is_before : List ℕ → List ℕ → Bool
is_before one other = is_lt (slice_cmp nat_cmp one other)

-- the paths before this one that get bytes, and the changes from it on
abbrev pub created_before : List ℕ → List Change → List (List ℕ)
created_before path [] = []
created_before path (change ∷ changes) =
    cond (is_before change.0 path) (held change.0 change.1 ++ created_before path changes) []

abbrev pub from_on : List ℕ → List Change → List Change
from_on path [] = []
from_on path (change ∷ changes) = cond (is_before change.0 path) (from_on path changes) (change ∷ changes)

-- a path of the store, unless the first of the changes removes it, and the changes behind it
abbrev pub kept : List ℕ → List Change → List (List ℕ)
kept path [] = path ∷ []
kept path (change ∷ changes) = cond (eq_by_cmp (slice_cmp nat_cmp) change.0 path) (held path change.1) (path ∷ [])

abbrev pub behind : List ℕ → List Change → List Change
behind path [] = []
behind path (change ∷ changes) = cond (eq_by_cmp (slice_cmp nat_cmp) change.0 path) changes (change ∷ changes)
