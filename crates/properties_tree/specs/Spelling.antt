-- How a key or a value is written so that reading it gives it back.
use Rattle.std.specs.Prelude.{ℕ, ◌==◌, ◌||◌, Bool, List, [], ◌∷◌, ◌++◌, if◌then◌else◌}
use Rattle.properties_tree.specs.Characters.{is_separator, is_comment_mark, backslash}

-- tab, LF, CR and form feed as escapes; another character as it stands, with a backslash before it where `marked`
abbrev pub spell_byte : Bool → ℕ → List ℕ
spell_byte marked b =
    if b == 9 then backslash ∷ 116 ∷ []
    else if b == 10 then backslash ∷ 110 ∷ []
    else if b == 13 then backslash ∷ 114 ∷ []
    else if b == 12 then backslash ∷ 102 ∷ []
    else if marked then backslash ∷ b ∷ []
    else b ∷ []

-- what a key has a backslash before: space, `=`, `:`, `#`, `!` and backslash
abbrev pub is_marked_in_key : ℕ → Bool
is_marked_in_key b = b == 32 || is_separator b || is_comment_mark b || b == backslash

unfoldable pub spelled_key : List ℕ → List ℕ
spelled_key [] = []
spelled_key (b ∷ rest) = spell_byte (is_marked_in_key b) b ++ spelled_key rest

-- the characters of a value behind its leading spaces: backslashes are marked
unfoldable pub spelled_rest : List ℕ → List ℕ
spelled_rest [] = []
spelled_rest (b ∷ rest) = spell_byte (b == backslash) b ++ spelled_rest rest

-- the leading run of spaces, each marked, and the rest
unfoldable pub spelled_spaces : List ℕ → List ℕ
spelled_spaces [] = []
spelled_spaces (b ∷ rest) = if b == 32 then backslash ∷ b ∷ spelled_spaces rest else spelled_rest (b ∷ rest)

-- A value: a first character `=` or `:` is marked, and so is each space of a leading run.
unfoldable pub spelled_value : List ℕ → List ℕ
spelled_value [] = []
spelled_value (b ∷ rest) =
    if is_separator b then backslash ∷ b ∷ spelled_rest rest else spelled_spaces (b ∷ rest)
