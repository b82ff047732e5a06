-- Integer and floating-point literals (JLS 3.10.1, 3.10.2).
use Rattle.std.specs.Prelude.{codes}
use Rattle.rw_base.specs.Expressions.{Expression, byte, ◌>>◌, ◌<|>◌, many, optional, text, one_of}

-- digits of a kind, with any number of underscores between two of them
abbrev pub separated : Expression → Expression
separated digit = digit >> many (many (text (codes "_")) >> digit)

abbrev pub digit : Expression
digit = byte 48 57

abbrev pub digits : Expression
digits = separated digit

abbrev pub hex_digit : Expression
hex_digit = digit <|> byte 65 70 <|> byte 97 102

abbrev pub hex_digits : Expression
hex_digits = separated hex_digit

abbrev pub hex_mark : Expression
hex_mark = text (codes "0") >> one_of (codes "xX")

abbrev pub binary_mark : Expression
binary_mark = text (codes "0") >> one_of (codes "bB")

-- DecimalNumeral and OctalNumeral, HexNumeral, BinaryNumeral
abbrev pub integer : Expression
integer = digits <|> hex_mark >> hex_digits <|> binary_mark >> separated (byte 48 49)

-- SignedInteger
abbrev pub signed : Expression
signed = optional (one_of (codes "+-")) >> digits

-- ExponentPart
abbrev pub exponent : Expression
exponent = one_of (codes "eE") >> signed

-- Digits . [Digits] [ExponentPart] or . Digits [ExponentPart]
abbrev pub with_point : Expression
with_point =
    digits >> text (codes ".") >> optional digits >> optional exponent
    <|> text (codes ".") >> digits >> optional exponent

-- HexSignificand BinaryExponent
abbrev pub hex_float : Expression
hex_float =
    hex_mark
    >> (hex_digits >> optional (text (codes ".")) <|> optional hex_digits >> text (codes ".") >> hex_digits)
    >> one_of (codes "pP") >> signed

abbrev pub long : Expression
long = integer >> one_of (codes "lL")

abbrev pub float : Expression
float = (with_point <|> digits >> optional exponent <|> hex_float) >> one_of (codes "fF")

abbrev pub double : Expression
double =
    (with_point <|> digits >> exponent <|> hex_float) >> optional (one_of (codes "dD"))
    <|> digits >> one_of (codes "dD")
