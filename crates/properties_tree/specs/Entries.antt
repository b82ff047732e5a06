-- Logical lines, and the entries that they are.
use Rattle.std.specs.Prelude.{ℕ, zero, suc, ◌+◌, ◌-◌, ◌==◌, Bool, true, false, List, [], ◌∷◌, ◌++◌, length, take, drop}
use Rattle.std.specs.Prelude.{map, if◌then◌else◌}
use Rattle.properties_tree.specs.Characters.{is_separator, ends_key, backslash}
use Rattle.rw_base.specs.NaturalLines.{Line, whole_line, lines_of}
use Rattle.properties_tree.specs.Lines.{leading_blanks, behind_blanks, is_passed_over, is_continued}

-- ---- logical lines

-- A line that is passed over, or an entry: its first line and the lines in which it goes on.
pub data LogicalLine : Type 0 where
  passed : Line → LogicalLine
  entry : Line → List Line → LogicalLine

-- The lines in which what stands before goes on, none where it doesn't; and the logical lines behind them.
unfoldable pub group_lines : Bool → List Line → List Line × List LogicalLine
group_lines going [] = ([], [])
group_lines true (line ∷ lines) = (
  line ∷ (group_lines (is_continued line.text) lines).0,
  (group_lines (is_continued line.text) lines).1,
)
group_lines false (line ∷ lines) =
    if is_passed_over line
    then ([], passed line ∷ (group_lines false lines).1)
    else (
      [],
      entry line (group_lines (is_continued line.text) lines).0 ∷ (group_lines (is_continued line.text) lines).1,
    )

abbrev pub logical_lines : List Line → List LogicalLine
logical_lines lines = (group_lines false lines).1

-- ---- the text of a logical line

-- A character of a logical line, or what means nothing in it: the last backslash of a line, the line end, and the
-- blanks with which the next line begins.
pub data Piece : Type 0 where
  char : ℕ → Piece
  joint : List ℕ → Piece

-- the pieces as they stand
abbrev pub bytes_of : List Piece → List ℕ
bytes_of [] = []
bytes_of (char b ∷ ps) = b ∷ bytes_of ps
bytes_of (joint text ∷ ps) = text ++ bytes_of ps

-- the characters alone
abbrev pub characters_of : List Piece → List ℕ
characters_of [] = []
characters_of (char b ∷ ps) = b ∷ characters_of ps
characters_of (joint text ∷ ps) = characters_of ps

abbrev pub chars : List ℕ → List Piece
chars text = map char text

abbrev pub without_last : List ℕ → List ℕ
without_last text = take (length text - 1) text

-- the pieces of a logical line, and the line end behind them
pub record JoinedLine : Type 0 where
  pub pieces : List Piece
  pub ending : List ℕ

-- What a line's text and line end, and the lines in which it goes on, are together. At the end of the file the last
-- backslash goes on into nothing.
unfoldable pub join_lines : List ℕ → List ℕ → List Line → JoinedLine
join_lines text ending [] =
    if is_continued text
    then record { pieces = chars (without_last text) ++ joint (backslash ∷ ending) ∷ []; ending = [] }
    else record { pieces = chars text; ending = ending }
join_lines text ending (next ∷ more) =
    record {
      pieces = chars (without_last text)
          ++ joint (backslash ∷ ending ++ leading_blanks next.text)
          ∷ (join_lines (behind_blanks next.text) next.ending more).pieces;
      ending = (join_lines (behind_blanks next.text) next.ending more).ending;
    }

-- ---- key, separator and value

-- How many characters stand before the first `=`, `:` or blank that no backslash escapes. The first character here is
-- escaped where `escaped` is true.
abbrev pub key_length_from : Bool → List ℕ → ℕ
key_length_from escaped [] = 0
key_length_from true (b ∷ rest) = suc (key_length_from false rest)
key_length_from false (b ∷ rest) =
    if b == backslash then suc (key_length_from true rest)
    else if ends_key b then 0
    else suc (key_length_from false rest)

abbrev pub key_length : List ℕ → ℕ
key_length text = key_length_from false text

-- whether a text begins with `=` or `:`
abbrev pub begins_with_separator : List ℕ → Bool
begins_with_separator [] = false
begins_with_separator (b ∷ rest) = is_separator b

-- how many characters the separator has that a text begins with: blanks, at most one of `=` and `:`, blanks
abbrev pub separator_length : List ℕ → ℕ
separator_length text =
    if begins_with_separator (behind_blanks text)
    then length (leading_blanks text) + 1 + length (leading_blanks (drop 1 (behind_blanks text)))
    else length (leading_blanks text)

-- the pieces up to the character of this number, none for 0, and the pieces behind it
abbrev pub take_characters : ℕ → List Piece → List Piece
take_characters zero ps = []
take_characters (suc n) [] = []
take_characters (suc n) (char b ∷ ps) = char b ∷ take_characters n ps
take_characters (suc n) (joint text ∷ ps) = joint text ∷ take_characters (suc n) ps

abbrev pub drop_characters : ℕ → List Piece → List Piece
drop_characters zero ps = ps
drop_characters (suc n) [] = []
drop_characters (suc n) (char b ∷ ps) = drop_characters n ps
drop_characters (suc n) (joint text ∷ ps) = drop_characters (suc n) ps

-- an entry, with the prefix before it
pub record Entry : Type 0 where
  pub prefix : List ℕ
  pub key : List Piece
  pub separator : List Piece
  pub value : List Piece
  pub ending : List ℕ

-- The entry of a logical line: the key up to its last character, the separator up to its last one, and the rest.
unfoldable pub entry_of : List ℕ → JoinedLine → Entry
entry_of prefix line =
    let key_size = key_length (characters_of line.pieces) in
    let after_key = drop_characters key_size line.pieces in
    let separator_size = separator_length (drop key_size (characters_of line.pieces)) in
    record {
      prefix = prefix;
      key = take_characters key_size line.pieces;
      separator = take_characters separator_size after_key;
      value = drop_characters separator_size after_key;
      ending = line.ending;
    }

-- the entries of a file, and the prefix of its end
pub record Properties : Type 0 where
  pub entries : List Entry
  pub rest : List ℕ

-- The entries of logical lines, where this prefix stands before them. Lines that are passed over, and the blanks
-- before an entry, are prefix.
unfoldable pub entries_of : List ℕ → List LogicalLine → Properties
entries_of before [] = record { entries = []; rest = before }
entries_of before (passed line ∷ lines) = entries_of (before ++ whole_line line) lines
entries_of before (entry line more ∷ lines) =
    record {
      entries = entry_of (before ++ leading_blanks line.text) (join_lines (behind_blanks line.text) line.ending more)
          ∷ (entries_of [] lines).entries;
      rest = (entries_of [] lines).rest;
    }

-- what the bytes of a properties file say
unfoldable pub properties_of : List ℕ → Properties
properties_of bytes = entries_of [] (logical_lines (lines_of bytes))

abbrev pub no_entry : Entry
no_entry = record { prefix = []; key = []; separator = []; value = []; ending = [] }
