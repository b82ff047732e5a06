-- What the small functions of the scanner give.
use Rattle.std.specs.Prelude.{◌≡◌, ℕ, ◌+◌, ◌*◌, ◌-◌, ◌%◌, ◌<◌, ◌≤◌, ◌⊎◌, ◌==◌, Bool, true, false, List, [], ◌∷◌, ◌++◌}
use Rattle.std.specs.Prelude.{length, take, drop, slice_index, slice_index_or, encode_utf8, if◌then◌else◌}
use Rattle.java_lex.specs.declared.automaton.Found.{Found}
use Rattle.java_lex.specs.declared.piece.Piece.{Piece}
use Rattle.java_lex.specs.declared.piece.Piece.TheVariants as piece
use Rattle.java_lex.specs.declared.table.TheConstants.{LEAF, LITERAL_ESCAPE, COMMENT_ESCAPE, NEXT, COLUMN, CLASS}
use Rattle.java_lex.specs.declared.slots.TheConstants.{LETTERS, LETTER_COUNT, WORD_CLASS}
use Rattle.rw_base.specs.Expressions.{Expression}
use Rattle.java_lex.specs.Literals.{literal_refused, comment_refused}
use Rattle.java_lex.specs.Kinds.{kinds, Fits}
use Rattle.java_lex.specs.Words.{IsWord, IsLetter}
use Rattle.java_lex.specs.Blanks.{is_white}
use Rattle.java_lex.specs.Leaves.{IsBlank, IsNextLeaf, IsBad, IsBadOpen}

-- a test of the first byte, where there is one
abbrev pub slice_first : (ℕ → Bool) → List ℕ → Bool
slice_first p [] = false
slice_first p (b ∷ rest) = p b

-- the first n bytes are white space, and no more
pub record IsWhite (s : List ℕ) (n : ℕ) : Type 0 where
  pub inside : n ≤ length s
  pub white : (k : ℕ) → k < n → is_white (slice_index s k) ≡ true
  pub ends : slice_first is_white (drop n s) ≡ false

-- ---- words

-- A text begins with a character of n bytes that passes the test, or, where n is 0, with none that does.
pub record IsFirstSize (p : ℕ → Bool) (s : List ℕ) (n : ℕ) : Type 0 where
  pub some : 0 < n → (c : ℕ) × (s ≡ encode_utf8 c ++ drop n s) × (length (encode_utf8 c) ≡ n) × IsLetter p c
  pub none : n ≡ 0 → (c : ℕ) (rest : List ℕ) → s ≡ encode_utf8 c ++ rest → IsLetter p c → ⊥

-- The first n bytes are the longest word at the front, or, where n is 0, none is there.
pub record IsWordSize (s : List ℕ) (n : ℕ) : Type 0 where
  pub inside : n ≤ length s
  pub some : 0 < n → IsWord (take n s)
  pub longest : (m : ℕ) → n < m → m ≤ length s → IsWord (take m s) → ⊥

-- the slot of a word
abbrev pub slot_of : List ℕ → ℕ
slot_of word =
    (31 * slice_index word 0 + 57 * slice_index word 1 + 22 * slice_index word (length word - 1) + length word) % 128

-- the word in a slot, which is empty where none is there, and its class
unfoldable pub slot_word : ℕ → List ℕ
slot_word slot = take (slice_index LETTER_COUNT slot) (slice_index_or LETTERS slot [])

unfoldable pub slot_class : ℕ → ℕ
slot_class slot = slice_index WORD_CLASS slot

-- ---- the automaton

-- the state behind a byte, and the class of a text that leads to a state, or 0
unfoldable pub next_state : ℕ → ℕ → ℕ
next_state state b = slice_index_or (slice_index_or NEXT state []) (slice_index COLUMN b) 0

unfoldable pub state_class : ℕ → ℕ
state_class state = slice_index CLASS state

abbrev pub IsEscape : ℕ → Type 0
IsEscape start = (start ≡ LITERAL_ESCAPE) ⊎ (start ≡ COMMENT_ESCAPE)

abbrev pub IsStart : ℕ → Type 0
IsStart start = (start ≡ LEAF) ⊎ IsEscape start

abbrev pub escape_of : ℕ → Expression
escape_of start = if start == LITERAL_ESCAPE then literal_refused else comment_refused

-- what the automaton knows from a state where it begins
abbrev pub known : ℕ → List (ℕ × Expression)
known start = if start == LEAF then kinds else (1, escape_of start) ∷ []

-- what a text begins with
pub record IsLongestOf (start : ℕ) (s : List ℕ) (r : Found) : Type 0 where
  pub inside : r.size ≤ length s
  pub is : (r.class ≡ 0 → ⊥) → Fits r.class (known start) (take r.size s)
  pub longest : (m k : ℕ) → r.size < m → m ≤ length s → Fits k (known start) (take m s) → ⊥
  pub none : r.class ≡ 0 → (m k : ℕ) → Fits k (known start) (take m s) → ⊥
  pub open_ : r.open ≡ true → (more : List ℕ) × (k : ℕ) × Fits k (known start) (s ++ more)
  pub closed : r.open ≡ false → (more : List ℕ) (k : ℕ) → Fits k (known start) (s ++ more) → ⊥

-- ---- pieces

abbrev pub IsPiece : Bool → List ℕ → Piece → Type 0
IsPiece broken s piece.End = (s ≡ []) × (broken ≡ false)
IsPiece broken s (piece.Comment n) = IsBlank s n × (0 < n) × (n ≤ length s)
IsPiece broken s (piece.Leaf class n) = IsNextLeaf s class n × (0 < n)
IsPiece broken s (piece.Bad n cause) = IsBad broken s n cause × (n ≤ length s)

-- what is open at the end of a text
abbrev pub IsOpenPiece : Bool → Expression → List ℕ → Piece → Type 0
IsOpenPiece broken escape s piece.End = ⊥
IsOpenPiece broken escape s (piece.Comment n) = ⊥
IsOpenPiece broken escape s (piece.Leaf class n) = ⊥
IsOpenPiece broken escape s (piece.Bad n cause) = IsBadOpen broken escape s n cause × (n ≤ length s)
