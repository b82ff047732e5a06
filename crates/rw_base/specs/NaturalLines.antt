-- Natural lines: a text cut at its line ends.
use Rattle.std.specs.Prelude.{ℕ, ◌==◌, Bool, false, List, [], ◌∷◌, ◌++◌, if◌then◌else◌}

-- A natural line: its text, and LF, CR LF or CR behind it. The last line of a file has none.
pub record Line : Type 0 where
  pub text : List ℕ
  pub ending : List ℕ

-- the line as it stands
abbrev pub whole_line : Line → List ℕ
whole_line line = line.text ++ line.ending

-- whether a text begins with LF
abbrev pub begins_with_lf : List ℕ → Bool
begins_with_lf [] = false
begins_with_lf (b ∷ rest) = b == 10

-- the lines with a character more at the front of the first line's text, or of its line end
abbrev pub with_text : ℕ → List Line → List Line
with_text b [] = record { text = b ∷ []; ending = [] } ∷ []
with_text b (line ∷ lines) = record { text = b ∷ line.text; ending = line.ending } ∷ lines

abbrev pub with_ending : ℕ → List Line → List Line
with_ending b [] = record { text = []; ending = b ∷ [] } ∷ []
with_ending b (line ∷ lines) = record { text = line.text; ending = b ∷ line.ending } ∷ lines

-- The natural lines of a text: LF ends one, CR LF does, and CR where no LF follows. There is always a last line,
-- which may be empty.
unfoldable pub lines_of : List ℕ → List Line
lines_of [] = record { text = []; ending = [] } ∷ []
lines_of (b ∷ rest) =
    if b == 10 then record { text = []; ending = b ∷ [] } ∷ lines_of rest
    else if b == 13
    then (if begins_with_lf rest then with_ending b (lines_of rest)
    else record { text = []; ending = b ∷ [] } ∷ lines_of rest)
    else with_text b (lines_of rest)
