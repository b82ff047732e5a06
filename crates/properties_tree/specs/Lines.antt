-- Lines of a properties file: which begin an entry, and which go on in the next one.
use Rattle.std.specs.Prelude.{ℕ, ◌+◌, ◌==◌, ◌%◌, Bool, true, List, [], ◌∷◌, if◌then◌else◌}
use Rattle.properties_tree.specs.Characters.{is_blank, is_comment_mark, backslash}
use Rattle.rw_base.specs.NaturalLines.{Line}

-- the blanks with which a text begins, and what stands behind them
abbrev pub leading_blanks : List ℕ → List ℕ
leading_blanks [] = []
leading_blanks (b ∷ rest) = if is_blank b then b ∷ leading_blanks rest else []

abbrev pub behind_blanks : List ℕ → List ℕ
behind_blanks [] = []
behind_blanks (b ∷ rest) = if is_blank b then behind_blanks rest else b ∷ rest

-- whether a line begins no entry: it has blanks alone, or its first other character is `#` or `!`
abbrev pub is_empty_or_comment : List ℕ → Bool
is_empty_or_comment [] = true
is_empty_or_comment (b ∷ rest) = is_comment_mark b

abbrev pub is_passed_over : Line → Bool
is_passed_over line = is_empty_or_comment (behind_blanks line.text)

-- the number of backslashes at the end of a text that stands behind so many of them
abbrev pub backslashes_behind : ℕ → List ℕ → ℕ
backslashes_behind count [] = count
backslashes_behind count (b ∷ rest) =
    if b == backslash then backslashes_behind (count + 1) rest else backslashes_behind 0 rest

abbrev pub is_odd : ℕ → Bool
is_odd n = n % 2 == 1

-- whether a line of an entry goes on in the next one: it ends in an odd number of backslashes
abbrev pub is_continued : List ℕ → Bool
is_continued text = is_odd (backslashes_behind 0 text)
