-- What small functions give that read letters. No public clause stands on this.
use Rattle.std.specs.Prelude.{◌≡◌, ℕ, Bool, true, false, List, ◌++◌, length, drop, encode_utf8}
use Rattle.rw_base.specs.Fronts.{Form}
use Rattle.java_lex.specs.Words.{IsLetter, begins_word, continues_word}
use Rattle.method_pattern.specs.Texts.{IsWrongAt}
use Rattle.method_pattern.specs.declared.letters.Front.{Front}
use Rattle.method_pattern.specs.declared.letters.Front.TheVariants.{Letter, Begun}

-- the characters that may stand in a word, behind letters or as the first of them
abbrev pub letter_test : Bool → ℕ → Bool
letter_test true = continues_word
letter_test false = begins_word

-- a text that begins with a letter
abbrev pub BeginsLetter : Bool → Form ℕ
BeginsLetter behind_letters c s =
    (rest : List ℕ) × (s ≡ encode_utf8 c ++ rest) × IsLetter (letter_test behind_letters) c

-- a letter that begins with these bytes
abbrev pub IsLetterOf : Bool → List ℕ → ℕ → Type 0
IsLetterOf behind_letters front c =
    (more : List ℕ) × (encode_utf8 c ≡ front ++ more) × IsLetter (letter_test behind_letters) c

-- what stands at the front of a text: a letter of so many bytes, or none
abbrev pub IsFront : Bool → Front → List ℕ → Type 0
IsFront behind_letters (Letter n) s =
    (c : ℕ) × (s ≡ encode_utf8 c ++ drop n s) × (length (encode_utf8 c) ≡ n) × IsLetter (letter_test behind_letters) c
IsFront behind_letters (Begun n) s = IsWrongAt (BeginsLetter behind_letters) s n
