-- A file has no more entries than lines, and so a tree that isn't too large.
use Rattle.std.proofs.Common.{ℕ, ◌+◌, ◌≤◌, Bool, true, false, List, [], ◌∷◌, ◌++◌, length, inl, inr, arith}
use Rattle.std.specs.Prelude.{◌==◌}
use Rattle.std.proofs.lemmas.Bool.{cases_Bool}
use Rattle.rw_base.specs.NaturalLines.{Line, lines_of, with_text, with_ending, begins_with_lf, whole_line}
use Rattle.properties_tree.specs.Lines.{is_passed_over, is_continued}
use Rattle.properties_tree.specs.Entries.{LogicalLine, passed, entry, group_lines, logical_lines, entries_of, properties_of}
use Rattle.properties_tree.specs.Laws.{FilesHaveTrees, EntriesHaveFourLeaves}
use Rattle.properties_tree.specs.Layout.{tree_of}
use Rattle.properties_tree.proofs.Made.{tree_made, length-leaves_from}

length-with_text : (b : ℕ) (lines : List Line) → length (with_text b lines) ≤ 1 + length lines
length-with_text b [] = omega arith
length-with_text b (line ∷ lines) = omega arith

length-with_ending : (b : ℕ) (lines : List Line) → length (with_ending b lines) ≤ 1 + length lines
length-with_ending b [] = omega arith
length-with_ending b (line ∷ lines) = omega arith

length-lines_of : (s : List ℕ) → length (lines_of s) ≤ length s + 1
unfolding lines_of
length-lines_of [] = omega arith
length-lines_of (b ∷ rest) =
    let more = length-lines_of rest in
    elim (cases_Bool (b == 10)) [
      | inl lf ↦ rw lf (omega arith)
      | inr not_lf ↦ elim (cases_Bool (b == 13)) [
        | inl cr ↦ elim (cases_Bool (begins_with_lf rest)) [
          | inl two ↦ rw (not_lf, cr) (rw two (omega (arith, length-with_ending b (lines_of rest))))
          | inr one ↦ rw (not_lf, cr) (rw one (omega arith))
        ]
        | inr not_cr ↦ rw (not_lf, not_cr) (omega (arith, length-with_text b (lines_of rest)))
      ]
    ]

length-grouped : (going : Bool) (lines : List Line) → length (group_lines going lines).1 ≤ length lines
unfolding group_lines
length-grouped going [] = omega arith
length-grouped true (line ∷ lines) = omega (arith, length-grouped (is_continued line.text) lines)
length-grouped false (line ∷ lines) = elim (cases_Bool (is_passed_over line)) [
  | inl over ↦ rw over (omega (arith, length-grouped false lines))
  | inr begins ↦ rw begins (omega (arith, length-grouped (is_continued line.text) lines))
]

length-entries_of : (before : List ℕ) (lines : List LogicalLine) → length (entries_of before lines).entries ≤ length lines
unfolding entries_of
length-entries_of before [] = omega arith
length-entries_of before (passed line ∷ lines) = omega (arith, length-entries_of (before ++ whole_line line) lines)
length-entries_of before (entry line more ∷ lines) = omega (arith, length-entries_of [] lines)

few_entries : (bytes : List ℕ) → length (properties_of bytes).entries ≤ length bytes + 1
unfolding properties_of
few_entries bytes = omega (arith, length-entries_of [] (logical_lines (lines_of bytes)), length-grouped false (lines_of bytes), length-lines_of bytes)

pub files_have_trees : FilesHaveTrees
unfolding tree_of
files_have_trees bytes small = tree_made (properties_of bytes).entries (properties_of bytes).rest (omega (arith, few_entries bytes))

pub entries_have_four_leaves : EntriesHaveFourLeaves
unfolding tree_of
entries_have_four_leaves bytes = length-leaves_from 0 (properties_of bytes).entries (properties_of bytes).rest
