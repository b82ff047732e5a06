-- Character and string literals, and escapes (JLS 3.10.4, 3.10.5, 3.10.6, and 3.3 for escapes by `u`).
use Rattle.std.specs.Prelude.{ℕ, ◌+◌, ◌-◌, codes}
use Rattle.rw_base.specs.Expressions.{Expression, byte, ◌>>◌, ◌<|>◌, many, optional, text, one_of}
use Rattle.java_lex.specs.Numbers.{hex_digit}

abbrev pub backslash : Expression
backslash = byte 92 92

abbrev pub octal : Expression
octal = byte 48 55

-- one to three octal digits, up to 377
abbrev pub octal_escape : Expression
octal_escape = byte 48 51 >> optional (octal >> optional octal) <|> byte 52 55 >> optional octal

-- one or more `u`
abbrev pub us : Expression
us = byte 117 117 >> many (byte 117 117)

abbrev pub unicode_escape : Expression
unicode_escape = us >> hex_digit >> hex_digit >> hex_digit >> hex_digit

abbrev pub escape : Expression
escape = backslash >> (one_of (codes "btnfr\"'\\") <|> octal_escape <|> unicode_escape)

-- A character other than LF, CR, the delimiter and the backslash. In UTF-8 a character is a byte below 128, or a byte
-- from hex C0 on with the continuation bytes behind it.
abbrev pub character : ℕ → Expression
character delimiter =
    byte 0 9 <|> byte 11 12 <|> byte 14 (delimiter - 1) <|> byte (delimiter + 1) 91 <|> byte 93 127
    <|> byte 192 255 >> many (byte 128 191)

abbrev pub char_literal : Expression
char_literal = byte 39 39 >> (character 39 <|> escape) >> byte 39 39

abbrev pub string_literal : Expression
string_literal = byte 34 34 >> many (character 34 <|> escape) >> byte 34 34

-- ---- escapes that are refused

-- in a literal the escapes by `u` of `"`, `'`, the backslash, LF and CR
unfoldable pub literal_refused : Expression
literal_refused =
    backslash >> us >> text (codes "00")
    >> (text (codes "22") <|> text (codes "27") <|> text (codes "5") >> one_of (codes "cC")
    <|> text (codes "0") >> one_of (codes "aAdD"))

-- in a comment those of `*`, `/`, LF and CR
unfoldable pub comment_refused : Expression
comment_refused =
    backslash >> us >> text (codes "00")
    >> (text (codes "2") >> one_of (codes "aAfF") <|> text (codes "0") >> one_of (codes "aAdD"))
