-- Patterns of paths.
use Rattle.std.specs.Prelude.{ℕ, ◌==◌, ◌&&◌, ◌||◌, nat_le, Bool, true, false, List, [], ◌∷◌, if◌then◌else◌}
use Rattle.std.specs.List.{slice_split}
use Rattle.std.specs.Str.{bytes_eq}

abbrev pub is_empty : {A : Type 0} → List A → Bool
is_empty [] = true
is_empty (x ∷ xs) = false

-- whether a list, or what is left of it without some items at its front, passes a test
unfoldable pub some_end : {A : Type 0} → (List A → Bool) → List A → Bool
some_end test [] = test []
some_end test (x ∷ xs) = test (x ∷ xs) || some_end test xs

-- ---- a part

-- a byte with which a character of UTF-8 goes on
abbrev pub is_continuation : ℕ → Bool
is_continuation b = nat_le 128 b && nat_le b 191

-- what stands behind the character whose first byte stands before these
unfoldable pub behind_character : List ℕ → List ℕ
behind_character [] = []
behind_character (b ∷ rest) = if is_continuation b then behind_character rest else b ∷ rest

-- Whether a text begins with what a byte of a pattern stands for, and what is behind that passes a test: `?` stands for
-- any one character, another byte for itself.
abbrev pub begins_and : ℕ → (List ℕ → Bool) → List ℕ → Bool
begins_and p test [] = false
begins_and p test (b ∷ rest) = if p == 63 then test (behind_character rest) else p == b && test rest

-- whether a part of a path is of this form, in which `*` stands for any characters, also none
unfoldable pub part_matches : List ℕ → List ℕ → Bool
part_matches [] part = is_empty part
part_matches (p ∷ ps) part =
    if p == 42 then some_end (part_matches ps) part else begins_and p (part_matches ps) part

-- ---- a path

abbrev pub parts_of : List ℕ → List (List ℕ)
parts_of text = slice_split (λ b. b == 47) text

-- the part `**`
abbrev pub stands_for_parts : List ℕ → Bool
stands_for_parts p = bytes_eq p (42 ∷ 42 ∷ [])

-- whether the first part is of this form, and those behind it pass a test
abbrev pub first_and : List ℕ → (List (List ℕ) → Bool) → List (List ℕ) → Bool
first_and p test [] = false
first_and p test (part ∷ parts) = part_matches p part && test parts

-- whether parts are of these forms, one for each, where `**` stands for any number of parts, also none
unfoldable pub parts_match : List (List ℕ) → List (List ℕ) → Bool
parts_match [] parts = is_empty parts
parts_match (p ∷ ps) parts =
    if stands_for_parts p then some_end (parts_match ps) parts else first_and p (parts_match ps) parts

-- whether a path matches a pattern, part by part
unfoldable pub path_matches : List ℕ → List ℕ → Bool
path_matches pattern path = parts_match (parts_of pattern) (parts_of path)
