-- The texts of method patterns.
--
--     pattern = type spaces name "(" [params] ")"
--     type    = part | part "." type | part ".." type
--     part    = a word with any `*`, or stars alone
--     name    = a word with any `*`, "*", or "<constructor>"
--     params  = last | param blanks "," blanks params
--     param   = ".." | type brackets
--     last    = param | type brackets "..."
--
-- spaces are one or more of them, blanks any number, brackets any number of "[]". A word is an identifier or a keyword
-- (JLS 3.8, 3.9). The name of a primitive type stands for that type, and `*` as a whole parameter for any type.
use Rattle.std.specs.Prelude.{◌≡◌, ℕ, ◌+◌, ◌<◌, ◌==◌, ◌⊎◌, not, zero, suc, filter, codes, length, encode_utf8_all}
use Rattle.std.specs.Prelude.{Option, None, Some, true, List, [], ◌∷◌, ◌++◌, if◌then◌else◌}
use Rattle.std.specs.List.{list_all}
use Rattle.std.specs.Str.{bytes_eq}
use Rattle.rw_base.specs.Fronts.{Form, IsLongestFront}
use Rattle.java_lex.specs.Words.{IsLetter, AllContinue, begins_word}
use Rattle.jtypes.specs.declared.types.JPrim.{JPrim}
use Rattle.jtypes.specs.declared.types.JPrim.TheVariants as prim
use Rattle.method_pattern.specs.declared.pattern.TypePattern.{TypePattern}
use Rattle.method_pattern.specs.declared.pattern.MethodPattern.{MethodPattern}
use Rattle.method_pattern.specs.declared.pattern.NamePiece.{NamePiece}
use Rattle.method_pattern.specs.declared.pattern.NamePiece.TheVariants.{Part, AnyParts}
use Rattle.method_pattern.specs.declared.pattern.ParamPattern.{ParamPattern}
use Rattle.method_pattern.specs.declared.pattern.ParamPattern.TheVariants.{Rest, AnyType, Primitive, Named}

-- ---- parts

-- characters of a word, or none
abbrev pub AreLetters : List ℕ → Type 0
AreLetters [] = Unit {0}
AreLetters (first ∷ others) = IsLetter begins_word first × AllContinue others

-- the UTF-8 of characters which without their stars are these letters, of a word or none
pub record IsStarred (letters : List ℕ) (s : List ℕ) : Type 0 where
  pub characters : List ℕ
  pub is : s ≡ encode_utf8_all characters
  pub others : filter (λ c. not (c == 42)) characters ≡ letters
  pub word : AreLetters letters

-- a part of a type pattern
abbrev pub IsPart : List ℕ → Type 0
IsPart s = (0 < length s) × ((letters : List ℕ) × IsStarred letters s)

-- the name of a method in a pattern
abbrev pub IsName : List ℕ → Type 0
IsName s =
    (s ≡ codes "*") ⊎ (s ≡ codes "<constructor>") ⊎ ((first : ℕ) × ((others : List ℕ) × IsStarred (first ∷ others) s))

-- ---- types

-- parts with `.` or `..` between them
pub data AreParts : List NamePiece → List ℕ → Type 0 where
  last : {pieces : List NamePiece} {s : List ℕ} → IsPart s → pieces ≡ Part s ∷ [] → AreParts pieces s
  dotted : {pieces : List NamePiece} {s : List ℕ} (part : List ℕ) (others : List NamePiece) (rest : List ℕ)
      → IsPart part → AreParts others rest
      → pieces ≡ Part part ∷ others → s ≡ part ++ 46 ∷ rest → AreParts pieces s
  over_parts : {pieces : List NamePiece} {s : List ℕ} (part : List ℕ) (others : List NamePiece) (rest : List ℕ)
      → IsPart part → AreParts others rest
      → pieces ≡ Part part ∷ AnyParts ∷ others → s ≡ part ++ 46 ∷ 46 ∷ rest → AreParts pieces s

-- the text spells this type pattern
abbrev pub IsTypePattern : TypePattern → List ℕ → Type 0
IsTypePattern pattern s = AreParts pattern.pieces s

-- ---- parameters

-- the primitive type of a word (JLS 4.2)
unfoldable pub prim_named : List ℕ → Option JPrim
prim_named word =
    if bytes_eq word (codes "boolean") then Some prim.Boolean
    else if bytes_eq word (codes "byte") then Some prim.Byte
    else if bytes_eq word (codes "short") then Some prim.Short
    else if bytes_eq word (codes "char") then Some prim.Char
    else if bytes_eq word (codes "int") then Some prim.Int
    else if bytes_eq word (codes "long") then Some prim.Long
    else if bytes_eq word (codes "float") then Some prim.Float
    else if bytes_eq word (codes "double") then Some prim.Double
    else None

-- the parameter of one part with so many `[]`, which may be the name of a primitive type
abbrev pub param_named : Option JPrim → List ℕ → ℕ → ParamPattern
param_named (Some p) part dimensions = Primitive p dimensions
param_named None part zero =
    if bytes_eq part (codes "*") then AnyType else Named (record { pieces = Part part ∷ [] }) zero
param_named None part (suc n) = Named (record { pieces = Part part ∷ [] }) (suc n)

-- the parameter of a type with so many `[]`
abbrev pub param_of : List NamePiece → ℕ → ParamPattern
param_of (Part part ∷ []) dimensions = param_named (prim_named part) part dimensions
param_of pieces dimensions = Named (record { pieces = pieces }) dimensions

-- so many `[]`
abbrev pub brackets : ℕ → List ℕ
brackets zero = []
brackets (suc n) = 91 ∷ 93 ∷ brackets n

-- a type with so many `[]` behind it, and with this end behind those
abbrev pub IsTyped : List NamePiece → ℕ → List ℕ → List ℕ → Type 0
IsTyped pieces dimensions end s = (type : List ℕ) × (s ≡ type ++ (brackets dimensions ++ end)) × AreParts pieces type

abbrev pub IsParam : ParamPattern → List ℕ → Type 0
IsParam param s =
    ((s ≡ codes "..") × (param ≡ Rest))
    ⊎ ((pieces : List NamePiece) × ((n : ℕ) × (IsTyped pieces n [] s × (param ≡ param_of pieces n))))

-- a parameter with `...` in place of its last `[]`
abbrev pub IsVarargsParam : ParamPattern → List ℕ → Type 0
IsVarargsParam param s =
    (pieces : List NamePiece) × ((n : ℕ) × (IsTyped pieces n (codes "...") s × (param ≡ param_of pieces (n + 1))))

abbrev pub IsLastParam : ParamPattern → List ℕ → Type 0
IsLastParam param s = IsParam param s ⊎ IsVarargsParam param s

-- any number of spaces
abbrev pub AreBlanks : List ℕ → Type 0
AreBlanks s = list_all (λ b. b == 32) s ≡ true

-- parameters with `,` between them, and blanks around that
pub data AreParams : List ParamPattern → List ℕ → Type 0 where
  last_param : {params : List ParamPattern} {s : List ℕ} (param : ParamPattern) → IsLastParam param s
      → params ≡ param ∷ [] → AreParams params s
  parted : {params : List ParamPattern} {s : List ℕ} (param : ParamPattern) (others : List ParamPattern)
      (front before behind rest : List ℕ) → IsParam param front → AreBlanks before → AreBlanks behind
      → AreParams others rest → params ≡ param ∷ others → s ≡ front ++ (before ++ 44 ∷ (behind ++ rest))
      → AreParams params s

-- ---- patterns

-- The text spells this method pattern.
pub record IsMethodPattern (pattern : MethodPattern) (s : List ℕ) : Type 0 where
  pub owner : List ℕ
  pub blanks : List ℕ
  pub params : List ℕ
  pub is : s ≡ owner ++ 32 ∷ (blanks ++ (pattern.name ++ 40 ∷ (params ++ 41 ∷ [])))
  pub owner_is : IsTypePattern pattern.owner owner
  pub blanks_are : AreBlanks blanks
  pub name_is : IsName pattern.name
  pub params_are : ((params ≡ []) × (pattern.params ≡ [])) ⊎ AreParams pattern.params params

-- A text that isn't of a form, and the byte behind its longest front that begins some text of it.
pub record IsWrongAt {X : Type 0} (form : Form X) (s : List ℕ) (n : ℕ) : Type 0 where
  pub wrong : (x : X) → form x s → ⊥
  pub longest : IsLongestFront form s n

-- A text spells one type pattern at most, and one method pattern.
abbrev pub TypePatternsAreOne : Type 0
TypePatternsAreOne = (s : List ℕ) (a b : TypePattern) → IsTypePattern a s → IsTypePattern b s → a ≡ b

abbrev pub MethodPatternsAreOne : Type 0
MethodPatternsAreOne = (s : List ℕ) (a b : MethodPattern) → IsMethodPattern a s → IsMethodPattern b s → a ≡ b
