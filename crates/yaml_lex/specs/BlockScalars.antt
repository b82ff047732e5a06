-- Block scalars, in a text that begins with one (YAML 1.2, chapter 8.1).
use Rattle.std.specs.Prelude.{◌≡◌, ℕ, ◌+◌, ◌-◌, ◌<◌, ◌==◌, ◌&&◌, ◌||◌, not, nat_le, Bool, true, false, List, []}
use Rattle.std.specs.Prelude.{◌∷◌, drop, slice_index, Option, Some, None, if◌then◌else◌}
use Rattle.yaml_lex.specs.Characters.{is_line_end, is_blank, begins, is_gap, is_line_over}
use Rattle.yaml_lex.specs.Scalars.{IsRun, in_line}

-- ---- the head: `|` or `>`, at most one of + and -, at most one digit from 1 to 9, blanks and perhaps a comment

abbrev pub is_chomp : ℕ → Bool
is_chomp b = (b == 43) || (b == 45)

abbrev pub is_digit : ℕ → Bool
is_digit b = nat_le 49 b && nat_le b 57

abbrev pub chomp_size : List ℕ → ℕ
chomp_size s = if begins is_chomp (drop 1 s) then 1 else 0

abbrev pub has_digit : List ℕ → Bool
has_digit s = begins is_digit (drop (1 + chomp_size s) s)

-- the bytes up to the digit
abbrev pub signs_size : List ℕ → ℕ
signs_size s = 1 + chomp_size s + (if has_digit s then 1 else 0)

abbrev pub digit_of : List ℕ → Option ℕ
digit_of s = if has_digit s then Some (slice_index s (1 + chomp_size s) - 48) else None

-- the line ends here, or a blank stands here and no more than blanks and a comment follow
abbrev pub is_head_over : List ℕ → Bool
is_head_over [] = true
is_head_over (b ∷ rest) = is_line_end b || (is_blank b && is_line_over rest)

-- The first n bytes are the head, up to its line's end.
pub record IsHead (s : List ℕ) (n : ℕ) : Type 0 where
  pub over : is_head_over (drop (signs_size s) s) ≡ true
  pub rest : ℕ
  pub line : IsRun in_line (drop (signs_size s) s) rest
  pub size : n ≡ signs_size s + rest

-- ---- the further lines

-- the bytes of LF, CR LF or CR, where one stands
abbrev pub ending_size : List ℕ → ℕ
ending_size [] = 0
ending_size (b ∷ rest) =
    if b == 10 then 1 else if b == 13 then (if begins (λ c. c == 10) rest then 2 else 1) else 0

-- a line of blanks alone begins here, or the end is here
abbrev pub is_blank_line : List ℕ → Bool
is_blank_line [] = true
is_blank_line (b ∷ rest) = is_line_end b || (is_blank b && is_blank_line rest)

-- how many spaces a line begins with
abbrev pub indentation : List ℕ → ℕ
indentation [] = 0
indentation (b ∷ rest) = if b == 32 then indentation rest + 1 else 0

-- three times this byte before a blank, a line end or the end
abbrev pub is_three : ℕ → List ℕ → Bool
is_three b s = (slice_index s 0 == b) && (slice_index s 1 == b) && (slice_index s 2 == b) && is_gap (drop 3 s)

-- `---` or `...`
unfoldable pub is_document_line : List ℕ → Bool
is_document_line s = is_three 45 s || is_three 46 s

-- The least indentation of a line of the scalar, where the innermost collection has this column: more than that, or
-- at least the digit more. At the root any will do.
abbrev pub least_of : Option ℕ → Option ℕ → ℕ
least_of None digit = 0
least_of (Some column) None = column + 1
least_of (Some column) (Some digit) = column + digit

-- a line that isn't blank begins here, and belongs to the scalar; the end doesn't
unfoldable pub belongs : ℕ → List ℕ → Bool
belongs least [] = false
belongs least (b ∷ rest) = not (is_document_line (b ∷ rest)) && nat_le least (indentation (b ∷ rest))

-- A text begins with a line's end. The first n bytes are that and all blank lines behind it, up to a line that isn't
-- blank, or to the end.
pub data BlankLines : List ℕ → ℕ → Type 0 where
  at_end : {s : List ℕ} {n : ℕ} → s ≡ [] → n ≡ 0 → BlankLines s n
  no_more : {s : List ℕ} {n : ℕ} → 0 < ending_size s → is_blank_line (drop (ending_size s) s) ≡ false
      → n ≡ ending_size s → BlankLines s n
  more : {s : List ℕ} {m n : ℕ} (size : ℕ) → 0 < ending_size s → is_blank_line (drop (ending_size s) s) ≡ true
      → IsRun is_blank (drop (ending_size s) s) size → BlankLines (drop (ending_size s + size) s) m
      → n ≡ ending_size s + size + m → BlankLines s n

-- A text begins where a line of a block scalar ends. The first n bytes are its further lines, up to the last one that
-- isn't blank.
pub data Lines (least : ℕ) : List ℕ → ℕ → Type 0 where
  -- behind blank lines stands the end, or a line that doesn't belong
  over : {s : List ℕ} {n : ℕ} (skip : ℕ) → BlankLines s skip → belongs least (drop skip s) ≡ false → n ≡ 0
      → Lines least s n
  -- behind blank lines stands a line that belongs
  line : {s : List ℕ} {m n : ℕ} (skip size : ℕ) → BlankLines s skip → belongs least (drop skip s) ≡ true
      → IsRun in_line (drop skip s) size → Lines least (drop (skip + size) s) m → n ≡ skip + size + m
      → Lines least s n

-- The first n bytes are a block scalar, where the innermost collection has this column.
pub record IsBlock (column : Option ℕ) (s : List ℕ) (n : ℕ) : Type 0 where
  pub head : ℕ
  pub is_head : IsHead s head
  pub rest : ℕ
  pub lines : Lines (least_of column (digit_of s)) (drop head s) rest
  pub size : n ≡ head + rest
