-- What text a scalar stands for (YAML 1.2, chapters 7.3 and 8.1).
use Rattle.std.specs.Prelude.{ℕ, ◌+◌, ◌-◌, ◌==◌, ◌&&◌, min, List, [], ◌∷◌, ◌++◌, length, take, drop, replicate}
use Rattle.std.specs.Prelude.{slice_index, Option, Some, None, if◌then◌else◌}
use Rattle.std.specs.List.{flat_map}
use Rattle.rw_base.specs.NaturalLines.{Line, lines_of}
use Rattle.yaml_lex.specs.declared.class.TheConstants.{BLOCK}
use Rattle.yaml_lex.specs.Characters.{is_line_end, is_quote, begins}
use Rattle.yaml_lex.specs.BlockScalars.{digit_of, is_blank_line, indentation}
use Rattle.yaml_texts.specs.Quoted.{quoted_text}

-- ---- block scalars with `|`

-- the lines behind the first one
abbrev pub further_lines : List ℕ → List Line
further_lines text = drop 1 (lines_of text)

-- the indentation of the first line that isn't blank
abbrev pub first_indentation : List Line → ℕ
first_indentation [] = 0
first_indentation (line ∷ lines) =
    if is_blank_line line.text then first_indentation lines else indentation line.text

-- How many spaces each line loses: those of the first line that isn't blank, or, where the head has a digit, so many
-- more than the column of the innermost collection; at the root just the digit (8.1.1.1).
abbrev pub lost_spaces : Option ℕ → Option ℕ → List Line → ℕ
lost_spaces column None lines = first_indentation lines
lost_spaces None (Some digit) lines = digit
lost_spaces (Some column) (Some digit) lines = column + digit

-- a line without them, as far as it has them, and LF
abbrev pub content_of : ℕ → Line → List ℕ
content_of lost line = drop (min lost (indentation line.text)) line.text ++ 10 ∷ []

abbrev pub contents_of : ℕ → List Line → List ℕ
contents_of lost lines = flat_map (content_of lost) lines

-- how many blank lines with a line end stand before anything else
abbrev pub blank_lines : List Line → ℕ
blank_lines [] = 0
blank_lines (line ∷ lines) =
    if is_blank_line line.text && begins is_line_end line.ending then blank_lines lines + 1 else 0

-- chomping (8.1.1.2): behind `-` the last LF goes, behind `+` the blank lines that follow the scalar stay
abbrev pub chomped : ℕ → List ℕ → ℕ → List ℕ
chomped sign content blanks =
    if sign == 45 then take (length content - 1) content
    else if sign == 43 then content ++ replicate blanks 10
    else content

-- The text of a block scalar before the rest of its file, where the innermost collection has this column. None for a
-- folded one, which begins with `>`.
abbrev pub block_text : Option ℕ → List ℕ → List ℕ → Option (List ℕ)
block_text column text rest =
    if begins (λ b. b == 124) text
    then (let lines = further_lines text in
    let content = contents_of (lost_spaces column (digit_of text) lines) lines in
    Some (chomped (slice_index text 1) content (blank_lines (further_lines rest))))
    else None

-- ---- all scalars

-- The text of a leaf of class KEY, SCALAR, FSCALAR or BLOCK: a plain scalar is its text. What follows the leaf in its
-- file, and the column of the innermost collection around it, matter to block scalars alone.
abbrev pub scalar_text : ℕ → Option ℕ → List ℕ → List ℕ → Option (List ℕ)
scalar_text class column text rest =
    if class == BLOCK then block_text column text rest
    else if begins is_quote text then quoted_text text
    else Some text
