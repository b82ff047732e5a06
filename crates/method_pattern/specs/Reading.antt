-- What small functions give that read texts of patterns. No public clause stands on this.
use Rattle.std.specs.Prelude.{◌≡◌, ℕ, ◌+◌, ◌<◌, ◌≤◌, ◌==◌, Bool, true, false, if◌then◌else◌, List, [], ◌∷◌, ◌++◌}
use Rattle.std.specs.Prelude.{length, take, drop, not, ◌⊎◌, encode_utf8_all, codes}
use Rattle.std.specs.List.{list_all, list_any}
use Rattle.rw_base.specs.Fronts.{Form}
use Rattle.java_lex.specs.Words.{IsLetter}
use Rattle.method_pattern.specs.Texts.{IsPart, IsName, AreParts, brackets, IsParam, IsVarargsParam}
use Rattle.method_pattern.specs.Texts.{AreBlanks, AreParams, IsWrongAt}
use Rattle.method_pattern.specs.declared.pattern.ParamPattern.{ParamPattern}
use Rattle.method_pattern.specs.declared.param_text.WrittenParam.{WrittenParam}
use Rattle.method_pattern.specs.declared.fault.PatternFault.{PatternFault}
use Rattle.method_pattern.specs.declared.fault.PatternFault.TheVariants.{At, NoMemory}
use Rattle.method_pattern.specs.declared.pattern.NamePiece.{NamePiece}
use Rattle.method_pattern.specs.declared.pattern.NamePiece.TheVariants.{AnyParts}
use Rattle.method_pattern.specs.declared.type_text.TypeEnd.{TypeEnd}
use Rattle.method_pattern.specs.declared.type_text.Written.{Written}
use Rattle.method_pattern.specs.declared.type_text.Joint.{Joint}
use Rattle.method_pattern.specs.declared.type_text.Joint.TheVariants.{Dot, Gap, End}
use Rattle.method_pattern.specs.Letters.{letter_test}

-- Up to this byte a text is read, and what is left is of this form: what it gives, and where it is wrong, is that of
-- the whole text.
pub record GoesOn {X Y : Type 0} (whole : Form Y) (left : Form X) (join : X → Y) (s : List ℕ) (at : ℕ) : Type 0 where
  pub inside : at ≤ length s
  pub value : (x : X) → left x (drop at s) → whole (join x) s
  pub fault : (n : ℕ) → IsWrongAt left (drop at s) n → IsWrongAt whole s (at + n)

-- the place of a fault in a text, by its place behind so many bytes of it
abbrev pub behind : ℕ → PatternFault → PatternFault
behind by (At n) = At (by + n)
behind by NoMemory = NoMemory

-- ---- runs of bytes

-- none of these bytes
abbrev pub outside : List ℕ → ℕ → Bool
outside ends b = not (list_any (λ e. e == b) ends)

-- these bytes don't go on with a run
abbrev pub Ends : (ℕ → Bool) → List ℕ → Type 0
Ends p [] = Unit {0}
Ends p (b ∷ s) = p b ≡ false

-- the run of bytes that a text begins with has so many
pub record IsRunSize (p : ℕ → Bool) (s : List ℕ) (n : ℕ) : Type 0 where
  pub inside : n ≤ length s
  pub run : list_all p (take n s) ≡ true
  pub ends : Ends p (drop n s)

-- ---- words

-- how many bytes two texts begin with alike
abbrev pub common : List ℕ → List ℕ → ℕ
common [] s = 0
common (a ∷ w) [] = 0
common (a ∷ w) (b ∷ s) = if a == b then common w s + 1 else 0

-- the text is this word
abbrev pub IsExactly : List ℕ → Form (Unit {0})
IsExactly word _ s = s ≡ word

-- ---- stars and letters

-- stars, and letters of a word: whether letters stand before them, and whether at the end
abbrev pub Goes : Bool → List ℕ → Bool → Type 0
Goes before [] has = has ≡ before
Goes before (c ∷ cs) has = ((c ≡ 42) × Goes before cs has) ⊎ (IsLetter (letter_test before) c × Goes true cs has)

abbrev pub StarredFrom : Bool → Form Bool
StarredFrom before has s = (cs : List ℕ) × ((s ≡ encode_utf8_all cs) × Goes before cs has)

abbrev pub IsPartText : Form (Unit {0})
IsPartText _ s = IsPart s

abbrev pub IsNameText : Form (Unit {0})
IsNameText _ s = IsName s

-- ---- types

abbrev pub varargs_text : Bool → List ℕ
varargs_text false = []
varargs_text true = codes "..."

-- what stands behind the parts of a type, which only that of a parameter may have: `[]` so often, and perhaps `...`
abbrev pub IsTypeEnd : Bool → Form TypeEnd
IsTypeEnd false end s = (s ≡ []) × (end ≡ record { dimensions = 0; varargs = false })
IsTypeEnd true end s = s ≡ brackets end.dimensions ++ varargs_text end.varargs

-- a type, by its pieces and what stands behind them
abbrev pub IsTypeText : Bool → Form (List NamePiece × TypeEnd)
IsTypeText of_parameter x s =
    (type : List ℕ) × ((end : List ℕ) × (s ≡ type ++ end) × AreParts x.0 type × IsTypeEnd of_parameter x.1 end)

-- what can stand behind a part of a type
pub data IsBehindPart (of_parameter : Bool) (x : List NamePiece × TypeEnd) (s : List ℕ) : Type 0 where
  ended : x.0 ≡ [] → IsTypeEnd of_parameter x.1 s → IsBehindPart of_parameter x s
  dot : (rest : List ℕ) → IsTypeText of_parameter x rest → s ≡ 46 ∷ rest → IsBehindPart of_parameter x s
  gap : (others : List NamePiece) (rest : List ℕ) → IsTypeText of_parameter (others, x.1) rest
      → x.0 ≡ AnyParts ∷ others → s ≡ 46 ∷ 46 ∷ rest → IsBehindPart of_parameter x s

-- which of these it is, by the dots with which it begins
abbrev pub IsJoint : Bool → Joint → List ℕ → Type 0
IsJoint of_parameter Dot s = (rest : List ℕ) × ((s ≡ 46 ∷ rest) × Ends (λ b. b == 46) rest)
IsJoint of_parameter Gap s =
    (rest : List ℕ) × ((s ≡ 46 ∷ 46 ∷ rest) × (of_parameter ≡ true → Ends (λ b. b == 46) rest))
IsJoint of_parameter End s =
    Ends (λ b. b == 46) s ⊎ ((of_parameter ≡ true) × ((rest : List ℕ) × (s ≡ 46 ∷ 46 ∷ 46 ∷ rest)))

abbrev pub written_as : Written → List NamePiece × TypeEnd
written_as w = (w.pieces.items, w.end)

-- ---- parameters

-- a parameter as it is written, with `...` or without
abbrev pub IsWrittenParam : Bool → ParamPattern → List ℕ → Type 0
IsWrittenParam false param s = IsParam param s
IsWrittenParam true param s = IsVarargsParam param s

abbrev pub IsParamText : Form WrittenParam
IsParamText w s = IsWrittenParam w.varargs w.param s

-- what can stand behind a parameter without `...`
pub data IsBehindParam (params : List ParamPattern) (s : List ℕ) : Type 0 where
  params_end : params ≡ [] → s ≡ [] → IsBehindParam params s
  comma : (before behind rest : List ℕ) → AreBlanks before → AreBlanks behind → AreParams params rest
      → s ≡ before ++ 44 ∷ (behind ++ rest) → IsBehindParam params s

-- so many bytes are a comma and the spaces around it
pub record IsComma (s : List ℕ) (n : ℕ) : Type 0 where
  pub before : List ℕ
  pub behind : List ℕ
  pub inside : n ≤ length s
  pub some : 0 < n
  pub is : take n s ≡ before ++ 44 ∷ behind
  pub before_are : AreBlanks before
  pub behind_are : AreBlanks behind
  pub ends : Ends (λ b. b == 32) (drop n s)

-- ---- methods

-- parameters, or none
abbrev pub IsParamList : Form (List ParamPattern)
IsParamList params s = ((s ≡ []) × (params ≡ [])) ⊎ AreParams params s

-- what stands behind `(`
abbrev pub IsClosed : Form (List ParamPattern)
IsClosed params s = (list : List ℕ) × ((s ≡ list ++ 41 ∷ []) × IsParamList params list)

-- a name and its parameters
abbrev pub IsCall : Form (List ℕ × List ParamPattern)
IsCall call s = (rest : List ℕ) × ((s ≡ call.0 ++ 40 ∷ rest) × IsName call.0 × IsClosed call.1 rest)
