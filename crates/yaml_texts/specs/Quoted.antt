-- What quoted scalars say: characters as they stand and escapes (YAML 1.2, chapters 5.7, 7.3.1 and 7.3.2).
use Rattle.std.specs.Prelude.{ℕ, zero, suc, ◌+◌, ◌-◌, ◌*◌, ◌==◌, ◌&&◌, ◌||◌, nat_le, Bool, List, [], ◌∷◌, ◌++◌}
use Rattle.std.specs.Prelude.{length, take, drop, slice_index, Option, Some, None, encode_utf8, if◌then◌else◌}
use Rattle.yaml_lex.specs.Characters.{is_line_end}

-- ---- escapes

-- the value of a hex digit
abbrev pub hex_value : ℕ → Option ℕ
hex_value b =
    if nat_le 48 b && nat_le b 57 then Some (b - 48)
    else if nat_le 97 b && nat_le b 102 then Some (b - 87)
    else if nat_le 65 b && nat_le b 70 then Some (b - 55)
    else None

-- the number so far with one hex digit more
abbrev pub with_hex_digit : Option ℕ → Option ℕ → Option ℕ
with_hex_digit (Some n) (Some digit) = Some (n * 16 + digit)
with_hex_digit _ _ = None

-- the number that the four hex digits at the front of a text name, where there are four
abbrev pub four_hex : List ℕ → Option ℕ
four_hex (a ∷ b ∷ c ∷ d ∷ rest) =
    with_hex_digit (with_hex_digit (with_hex_digit (hex_value a) (hex_value b)) (hex_value c)) (hex_value d)
four_hex _ = None

abbrev pub is_surrogate : ℕ → Bool
is_surrogate n = nat_le 0xd800 n && nat_le n 0xdfff

-- a number that is no surrogate is a character's
abbrev pub char_of : Option ℕ → Option ℕ
char_of None = None
char_of (Some n) = if is_surrogate n then None else Some n

-- what a sign behind a backslash stands for: `" \ /` for themselves, `n t r` for LF, tab and CR
abbrev pub sign_of : ℕ → Option ℕ
sign_of b =
    if (b == 34) || (b == 92) || (b == 47) then Some b
    else if b == 110 then Some 10
    else if b == 116 then Some 9
    else if b == 114 then Some 13
    else None

-- What a character of a quoted scalar says, and how many bytes it has behind its first.
pub record Character : Type 0 where
  pub says : List ℕ
  pub more : ℕ

-- a byte, and a character by its number
abbrev pub byte_character : ℕ → Option ℕ → Option Character
byte_character more None = None
byte_character more (Some b) = Some (record { says = b ∷ []; more = more })

abbrev pub number_character : Option ℕ → Option Character
number_character None = None
number_character (Some n) = Some (record { says = encode_utf8 n; more = 5 })

-- The escape whose backslash stands before a text: `u` and four hex digits that name no surrogate, or one of the signs.
-- No other is decoded.
abbrev pub escape_of : List ℕ → Option Character
escape_of [] = None
escape_of (b ∷ rest) = if b == 117 then number_character (char_of (four_hex rest)) else byte_character 1 (sign_of b)

-- ---- texts

-- The first character of a text between such quotes. In double quotes a backslash begins an escape; in single quotes
-- two quotes stand for one. A line's end isn't decoded.
unfoldable pub character_of : ℕ → List ℕ → Option Character
character_of quote [] = None
character_of quote (b ∷ rest) =
    if is_line_end b then None
    else if (quote == 34) && (b == 92) then escape_of rest
    else if (quote == 39) && (b == 39) then byte_character 1 (Some b)
    else byte_character 0 (Some b)

abbrev pub more_of : Option Character → ℕ
more_of None = 0
more_of (Some c) = c.more

-- a character, and what the rest says
abbrev pub with_character : Option Character → Option (List ℕ) → Option (List ℕ)
with_character None text = None
with_character (Some c) None = None
with_character (Some c) (Some text) = Some (c.says ++ text)

-- what a text between quotes says behind its first bytes, which belong to the character before
unfoldable pub said_behind : ℕ → ℕ → List ℕ → Option (List ℕ)
said_behind quote skipped [] = Some []
said_behind quote (suc skipped) (b ∷ rest) = said_behind quote skipped rest
said_behind quote zero (b ∷ rest) =
    with_character (character_of quote (b ∷ rest)) (said_behind quote (more_of (character_of quote (b ∷ rest))) rest)

-- what stands between the first byte and the last
abbrev pub inner : List ℕ → List ℕ
inner text = take (length text - 2) (drop 1 text)

-- The text of a quoted scalar. None where it goes over several lines, or has another escape than these.
abbrev pub quoted_text : List ℕ → Option (List ℕ)
quoted_text text = said_behind (slice_index text 0) 0 (inner text)
