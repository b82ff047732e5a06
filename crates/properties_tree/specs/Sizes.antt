-- How many bytes the parts of a line have, as the reader counts them. No public clause stands on this.
use Rattle.std.specs.Prelude.{◌≡◌, ℕ, suc, ◌+◌, ◌<◌, ◌≤◌, ◌==◌, ◌||◌, Bool, true, List, [], ◌∷◌, ◌++◌, length, take}
use Rattle.std.specs.Prelude.{drop, if◌then◌else◌}
use Rattle.properties_tree.specs.Characters.{is_line_end, is_comment_mark}
use Rattle.rw_base.specs.NaturalLines.{begins_with_lf, lines_of}
use Rattle.properties_tree.specs.Entries.{Entry, Piece, Properties, entries_of, logical_lines, bytes_of}
use Rattle.properties_tree.specs.declared.reader.Sizes.{Sizes}

-- the bytes before the first line end
abbrev pub text_length : List ℕ → ℕ
text_length [] = 0
text_length (b ∷ rest) = if is_line_end b then 0 else suc (text_length rest)

-- the bytes of the line end that a text begins with
abbrev pub ending_length : List ℕ → ℕ
ending_length [] = 0
ending_length (b ∷ rest) =
    if b == 10 then 1
    else if b == 13 then (if begins_with_lf rest then 2 else 1)
    else 0

-- whether a text, behind the blanks of its first line, begins no entry
abbrev pub begins_no_entry : List ℕ → Bool
begins_no_entry [] = true
begins_no_entry (b ∷ rest) = is_line_end b || is_comment_mark b

-- the entries of a text that begins with a line, where this prefix stands before it
unfoldable pub entries_from : List ℕ → List ℕ → Properties
entries_from before text = entries_of before (logical_lines (lines_of text))

-- an entry more at the front
abbrev pub with_entry : Entry → Properties → Properties
with_entry e p = record { entries = e ∷ p.entries; rest = p.rest }

-- the bytes of an entry with the blanks before it
abbrev pub whole_size : Sizes → ℕ
whole_size z = z.blanks + z.key + z.separator + z.value + z.ending

-- A text begins with an entry whose parts have these sizes.
pub record BeginsEntry (text : List ℕ) (z : Sizes) : Type 0 where
  pub key : List Piece
  pub separator : List Piece
  pub value : List Piece
  pub ending : List ℕ
  pub key_size : length (bytes_of key) ≡ z.key
  pub separator_size : length (bytes_of separator) ≡ z.separator
  pub value_size : length (bytes_of value) ≡ z.value
  pub ending_size : length ending ≡ z.ending
  pub some : 0 < whole_size z
  pub inside : whole_size z ≤ length text
  pub entries : (before : List ℕ) →
      let prefix = before ++ take z.blanks text in
      let first : Entry =
      record { prefix = prefix; key = key; separator = separator; value = value; ending = ending } in
      entries_from before text ≡ with_entry first (entries_from [] (drop (whole_size z) text))

-- A text begins with a line of this size that is passed over.
pub record BeginsPassed (text : List ℕ) (size : ℕ) : Type 0 where
  pub some : 0 < size
  pub inside : size ≤ length text
  pub entries :
      (before : List ℕ) → entries_from before text ≡ entries_from (before ++ take size text) (drop size text)
