-- What a key or a value says: escapes decoded.
use Rattle.std.specs.Prelude.{ℕ, zero, suc, ◌+◌, ◌-◌, ◌*◌, ◌==◌, ◌&&◌, nat_le, Bool, List, [], ◌∷◌, ◌++◌, Option, Some}
use Rattle.std.specs.Prelude.{None, encode_utf8, slice_index_or, if◌then◌else◌}
use Rattle.properties_tree.specs.Characters.{backslash}
use Rattle.properties_tree.specs.Entries.{Entry, properties_of, no_entry, characters_of}

-- a byte of the text, or the UTF-16 code unit that an escape names
pub data Element : Type 0 where
  byte : ℕ → Element
  code : ℕ → Element

-- the value of a hex digit
abbrev pub hex_value : ℕ → Option ℕ
hex_value b =
    if nat_le 48 b && nat_le b 57 then Some (b - 48)
    else if nat_le 97 b && nat_le b 102 then Some (b - 87)
    else if nat_le 65 b && nat_le b 70 then Some (b - 55)
    else None

-- the number so far with one hex digit more
abbrev pub with_hex_digit : Option ℕ → Option ℕ → Option ℕ
with_hex_digit (Some n) (Some digit) = Some (n * 16 + digit)
with_hex_digit _ _ = None

-- the number that the four hex digits at the front of a text name, where there are four
abbrev pub four_hex : List ℕ → Option ℕ
four_hex (a ∷ b ∷ c ∷ d ∷ rest) =
    with_hex_digit (with_hex_digit (with_hex_digit (hex_value a) (hex_value b)) (hex_value c)) (hex_value d)
four_hex _ = None

-- what a character behind a backslash stands for: tab, LF, CR and form feed by `t n r f`, any other for itself
abbrev pub escaped_byte : ℕ → ℕ
escaped_byte b =
    if b == 116 then 9
    else if b == 110 then 10
    else if b == 114 then 13
    else if b == 102 then 12
    else b

-- what an escape is, and how many characters it has behind its backslash
pub record Escape : Type 0 where
  pub elements : List Element
  pub size : ℕ

abbrev pub unicode_escape : Option ℕ → Escape
unicode_escape (Some n) = record { elements = code n ∷ []; size = 5 }
unicode_escape None = record { elements = byte 117 ∷ []; size = 1 }

-- The escape whose backslash stands before a text: `u` with four hex digits, else one character. A backslash at the
-- end stands for nothing.
abbrev pub escape_of : List ℕ → Escape
escape_of [] = record { elements = []; size = 0 }
escape_of (b ∷ rest) =
    if b == 117
    then unicode_escape (four_hex rest)
    else record { elements = byte (escaped_byte b) ∷ []; size = 1 }

-- the elements of a text behind its first characters, which belong to an escape
unfoldable pub elements_behind : ℕ → List ℕ → List Element
elements_behind skipped [] = []
elements_behind (suc skipped) (b ∷ rest) = elements_behind skipped rest
elements_behind zero (b ∷ rest) =
    if b == backslash
    then (escape_of rest).elements ++ elements_behind (escape_of rest).size rest
    else byte b ∷ elements_behind zero rest

abbrev pub elements_of : List ℕ → List Element
elements_of text = elements_behind 0 text

-- ---- code units joined (UTF-16)

abbrev pub is_high : ℕ → Bool
is_high u = nat_le 0xd800 u && nat_le u 0xdbff

abbrev pub is_low : ℕ → Bool
is_low u = nat_le 0xdc00 u && nat_le u 0xdfff

-- the character of a pair of surrogates
abbrev pub pair_of : ℕ → ℕ → ℕ
pair_of high low = 0x10000 + (high - 0xd800) * 0x400 + (low - 0xdc00)

-- the bytes of a code unit that is in no pair: a surrogate becomes U+FFFD
abbrev pub lone_bytes : ℕ → List ℕ
lone_bytes u = if nat_le 0xd800 u && nat_le u 0xdfff then encode_utf8 0xfffd else encode_utf8 u

-- the bytes of elements, in UTF-8
unfoldable pub utf8_of : List Element → List ℕ
utf8_of [] = []
utf8_of (byte b ∷ es) = b ∷ utf8_of es
utf8_of (code u ∷ []) = lone_bytes u
utf8_of (code u ∷ byte b ∷ es) = lone_bytes u ++ b ∷ utf8_of es
utf8_of (code u ∷ code v ∷ es) =
    if is_high u && is_low v
    then encode_utf8 (pair_of u v) ++ utf8_of es
    else lone_bytes u ++ utf8_of (code v ∷ es)

-- the text that characters of a logical line say
abbrev pub decode : List ℕ → List ℕ
decode text = utf8_of (elements_of text)

-- the decoded key and value of an entry
abbrev pub key_text : Entry → List ℕ
key_text e = decode (characters_of e.key)

abbrev pub value_text : Entry → List ℕ
value_text e = decode (characters_of e.value)

-- the entry of a number
abbrev pub entry_at : List ℕ → ℕ → Entry
entry_at bytes n = slice_index_or (properties_of bytes).entries n no_entry
