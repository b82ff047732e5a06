-- The kinds of leaves, each with its class (JLS 3.5, 3.8 to 3.12).
use Rattle.std.specs.Prelude.{◌≡◌, ℕ, ◌⊎◌, ◌==◌, ◌||◌, Bool, List, [], ◌∷◌}
use Rattle.java_lex.specs.declared.class.TheConstants.{INT, LONG, FLOAT, DOUBLE, CHAR, STRING}
use Rattle.rw_base.specs.Expressions.{Expression, Matches, text}
use Rattle.java_lex.specs.Numbers.{integer, long, float, double}
use Rattle.java_lex.specs.Literals.{char_literal, string_literal}
use Rattle.java_lex.specs.Signs.{signs}
use Rattle.java_lex.specs.Words.{IsWord, word_class}

abbrev pub sign_kinds : List (ℕ × List ℕ) → List (ℕ × Expression)
sign_kinds [] = []
sign_kinds (sign ∷ rest) = (sign.0, text sign.1) ∷ sign_kinds rest

-- the leaves other than words: their classes with the texts of each
unfoldable pub kinds : List (ℕ × Expression)
kinds =
    (INT, integer) ∷ (LONG, long) ∷ (FLOAT, float) ∷ (DOUBLE, double) ∷ (CHAR, char_literal) ∷ (STRING, string_literal)
    ∷ sign_kinds signs

-- the text is one of a kind with this class
abbrev pub Fits : ℕ → List (ℕ × Expression) → List ℕ → Type 0
Fits class [] s = ⊥
Fits class (kind ∷ rest) s = ((class ≡ kind.0) × Matches kind.1 s) ⊎ Fits class rest s

-- the text is a leaf of this class
pub data IsLeaf (class : ℕ) (s : List ℕ) : Type 0 where
  word : IsWord s → class ≡ word_class s → IsLeaf class s
  other : Fits class kinds s → IsLeaf class s

-- the leaves in which escapes stand
abbrev pub is_literal : ℕ → Bool
is_literal class = (class == CHAR) || (class == STRING)
