-- Lines that are passed over, and lines that end.
use Rattle.std.proofs.Common.{◌≡◌, ℕ, ◌+◌, true, false, List, [], ◌∷◌, ◌++◌, take, drop, refl, sym, ◌∙◌, ap, inl, inr}
use Rattle.std.proofs.Math.Seq.{take-add}
use Rattle.std.proofs.lemmas.Bool.{cases_Bool}
use Rattle.std.proofs.lemmas.List.{drop-drop}
use Rattle.rw_base.specs.NaturalLines.{Line}
use Rattle.properties_tree.specs.Lines.{is_continued, behind_blanks, is_empty_or_comment, is_passed_over}
use Rattle.properties_tree.specs.Entries.{passed, entry, LogicalLine, bytes_of, characters_of, chars, join_lines, entries_of, group_lines, logical_lines}
use Rattle.properties_tree.specs.Sizes.{text_length, ending_length, entries_from}
use Rattle.properties_tree.proofs.FirstLine.{line_text, behind_text, ending_text, lines_behind, line_of, first_line, at_end, entries_behind}

-- ---- lines that go on nowhere

pub grouped-none : (lines : List Line) → (group_lines false lines).0 ≡ []
unfolding group_lines
grouped-none [] = refl
grouped-none (line ∷ lines) = elim (cases_Bool (is_passed_over line)) [ inl e ↦ rw e refl | inr e ↦ rw e refl ]

pub grouped-passed : (line : Line) (lines : List Line) → is_passed_over line ≡ true → group_lines false (line ∷ lines) ≡ ([], passed line ∷ (group_lines false lines).1)
unfolding group_lines
grouped-passed line lines e = rw e refl

pub grouped-begins : (line : Line) (lines : List Line) → is_passed_over line ≡ false
    → group_lines false (line ∷ lines) ≡ ([], entry line (group_lines (is_continued line.text) lines).0 ∷ (group_lines (is_continued line.text) lines).1)
unfolding group_lines
grouped-begins line lines e = rw e refl

pub logical_passed : (line : Line) (lines : List Line) → is_passed_over line ≡ true → logical_lines (line ∷ lines) ≡ passed line ∷ logical_lines lines
logical_passed line lines e = ap (λ (g : List Line × List LogicalLine). g.1) (grouped-passed line lines e)

pub joined-plain : (text ending : List ℕ) → is_continued text ≡ false → join_lines text ending [] ≡ record { pieces = chars text; ending = ending }
unfolding join_lines
joined-plain text ending stays = rw stays refl

-- ---- characters alone

pub characters_of-chars : (s : List ℕ) → characters_of (chars s) ≡ s
characters_of-chars [] = refl
characters_of-chars (b ∷ rest) = ap (λ t. b ∷ t) (characters_of-chars rest)

pub bytes_of-chars : (s : List ℕ) → bytes_of (chars s) ≡ s
bytes_of-chars [] = refl
bytes_of-chars (b ∷ rest) = ap (λ t. b ∷ t) (bytes_of-chars rest)

-- ---- what a text begins with

module _ (s : List ℕ) where
  abbrev end : ℕ
  end = text_length s

  abbrev ending : ℕ
  ending = ending_length (behind_text s)

  whole_length : take (end + ending) s ≡ line_text s ++ ending_text (behind_text s)
  whole_length = take-add end ending s

  rest_is : drop ending (behind_text s) ≡ drop (end + ending) s
  rest_is = drop-drop ending end s

  pub passes : is_empty_or_comment (behind_blanks (line_text s)) ≡ true → (before : List ℕ) → entries_from before s ≡ entries_from (before ++ take (end + ending) s) (drop (end + ending) s)
  unfolding entries_from entries_of
  passes comment before =
      ap (λ ls. entries_of before (logical_lines ls)) (first_line s)
      ∙ (ap (entries_of before) (logical_passed (line_of s) (lines_behind (behind_text s)) comment)
      ∙ (entries_behind (before ++ (line_text s ++ ending_text (behind_text s))) (behind_text s) (at_end s)
      ∙ (ap (λ t. entries_from (before ++ t) (drop ending (behind_text s))) (sym whole_length)
      ∙ ap (entries_from (before ++ take (end + ending) s)) rest_is)))
