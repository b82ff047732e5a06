-- The pieces of a logical line from its bytes, from left to right, and how many bytes the parts of an entry have. No
-- public clause stands on this.
use Rattle.std.specs.Prelude.{◌≡◌, ℕ, zero, suc, ◌+◌, ◌<◌, ◌≤◌, ◌==◌, ◌&&◌, not, Bool, true, false, List, [], ◌∷◌, ◌++◌}
use Rattle.std.specs.Prelude.{length, take, drop, if◌then◌else◌}
use Rattle.properties_tree.specs.Characters.{is_line_end, is_blank, is_separator, backslash}
use Rattle.properties_tree.specs.Lines.{leading_blanks}
use Rattle.properties_tree.specs.Entries.{Piece, char, joint, bytes_of, characters_of, take_characters, key_length}
use Rattle.properties_tree.specs.Sizes.{ending_length}
use Rattle.properties_tree.specs.declared.pieces.Next.{Next}
use Rattle.properties_tree.specs.declared.pieces.Next.TheVariants as next

-- whether a backslash before a text means nothing: a line end follows, or nothing
abbrev pub joins : List ℕ → Bool
joins [] = true
joins (b ∷ rest) = is_line_end b

-- the bytes of a joint behind its backslash: a line end, and blanks
abbrev pub joint_size : List ℕ → ℕ
joint_size text = ending_length text + length (leading_blanks (drop (ending_length text) text))

-- the first character of a text, as a piece
abbrev pub char_at : List ℕ → List Piece
char_at [] = []
char_at (b ∷ rest) = char b ∷ []

-- The pieces of the logical line that a text begins with, behind its first bytes, which belong to a piece before.
unfoldable pub pieces_behind : ℕ → List ℕ → List Piece
pieces_behind skipped [] = []
pieces_behind (suc skipped) (b ∷ rest) = pieces_behind skipped rest
pieces_behind zero (b ∷ rest) =
    if is_line_end b then []
    else if b == backslash
    then (if joins rest
    then joint (backslash ∷ take (joint_size rest) rest) ∷ pieces_behind (joint_size rest) rest
    else char b ∷ (char_at rest ++ pieces_behind 1 rest))
    else char b ∷ pieces_behind 0 rest

abbrev pub pieces_in : List ℕ → List Piece
pieces_in text = pieces_behind 0 text

-- the pieces of a key, and of a separator in which a mark has been or not, that stand at the front of pieces
abbrev pub key_front : List Piece → List Piece
key_front ps = take_characters (key_length (characters_of ps)) ps

-- How many characters of a separator stand at the front of a text, where a mark has been or not.
abbrev pub separator_from : Bool → List ℕ → ℕ
separator_from marked [] = 0
separator_from marked (b ∷ rest) =
    if is_blank b then suc (separator_from marked rest)
    else if not marked && is_separator b then suc (separator_from true rest)
    else 0

abbrev pub separator_front : Bool → List Piece → List Piece
separator_front marked ps = take_characters (separator_from marked (characters_of ps)) ps

-- how many bytes they have
abbrev pub key_size : List ℕ → ℕ
key_size text = length (bytes_of (key_front (pieces_in text)))

abbrev pub separator_size : List ℕ → ℕ
separator_size text = length (bytes_of (separator_front false (pieces_in text)))

abbrev pub line_size : List ℕ → ℕ
line_size text = length (bytes_of (pieces_in text))

-- ---- how far a key is read

-- the end of a part of which so many characters are to come: where the last one ended, or behind those
abbrev pub ends_at : ℕ → ℕ → ℕ → ℕ
ends_at zero last past = last
ends_at (suc n) last past = past

-- where a key ends whose last character so far ends at e, where these pieces stand next, at a
abbrev pub key_end : ℕ → ℕ → List Piece → ℕ
key_end e a ps = ends_at (key_length (characters_of ps)) e (a + length (bytes_of (key_front ps)))

-- ---- the next piece

-- one character that is no backslash
pub record IsChar (text : List ℕ) (at b : ℕ) : Type 0 where
  pub pieces : pieces_in (drop at text) ≡ char b ∷ pieces_in (drop (at + 1) text)
  pub plain : (b == backslash) ≡ false
  pub inside : at + 1 ≤ length text

-- a backslash, and the character behind it
pub record IsPair (text : List ℕ) (at c : ℕ) : Type 0 where
  pub pieces : pieces_in (drop at text) ≡ char backslash ∷ char c ∷ pieces_in (drop (at + 2) text)
  pub inside : at + 2 ≤ length text

-- what means nothing
pub record IsJoint (text : List ℕ) (at size : ℕ) : Type 0 where
  pub bytes : List ℕ
  pub pieces : pieces_in (drop at text) ≡ joint bytes ∷ pieces_in (drop (at + size) text)
  pub length_is : length bytes ≡ size
  pub some : 0 < size
  pub inside : at + size ≤ length text

-- which pieces stand next in a text, from a place on
abbrev pub IsNext : List ℕ → ℕ → Next → Type 0
IsNext text at next.End = pieces_in (drop at text) ≡ []
IsNext text at (next.Char b) = IsChar text at b
IsNext text at (next.Pair c) = IsPair text at c
IsNext text at (next.Joint size) = IsJoint text at size
