-- The leaves of a properties file, one behind another, are its bytes.
use Rattle.std.proofs.Common.{◌≡◌, ℕ, zero, suc, ◌+◌, ◌-◌, ◌*◌, ◌<◌, Bool, true, false, List, [], ◌∷◌, ◌++◌, length, get_or, take, drop, refl, sym, ◌∙◌, ap, arith, inl, inr, length-append, append_assoc, append-nil, add-zero}
use Rattle.std.specs.Prelude.{◌==◌, slice_range}
use Rattle.std.proofs.lemmas.Bool.{cases_Bool, false≢true, eqb-true, ne_eqb}
use Rattle.std.proofs.lemmas.List.{take_at, drop_at}
use Rattle.rw_base.specs.Arena.{end_from, end_of, leaf_at, text_of}
use Rattle.properties_tree.specs.Characters.{is_blank, backslash}
use Rattle.rw_base.specs.NaturalLines.{Line, whole_line, begins_with_lf, lines_of, with_text, with_ending}
use Rattle.properties_tree.specs.Lines.{leading_blanks, behind_blanks, is_passed_over, is_continued, backslashes_behind, is_odd}
use Rattle.properties_tree.specs.Entries.{LogicalLine, group_lines, Piece, char, joint, bytes_of, chars, without_last, JoinedLine, join_lines, take_characters, drop_characters, Entry, entry_of, key_length, separator_length, characters_of, Properties, entries_of, properties_of, no_entry}
use Rattle.properties_tree.specs.Laws.{whole_entry, whole_of}
use Rattle.properties_tree.specs.Sizes.{entries_from}
use Rattle.properties_tree.specs.Layout.{leaves_from, entry_end, tree_of}
use Rattle.properties_tree.proofs.Made.{four_more, ending_to, ending_to-is, length-leaves_from, length-nodes}
use Rattle.properties_tree.specs.Decoding.{entry_at}
use Rattle.properties_tree.proofs.Plain.{bytes_of-chars, grouped-none, grouped-passed, grouped-begins}

-- ---- what stands in lines

abbrev pub whole_lines : List Line → List ℕ
whole_lines [] = []
whole_lines (line ∷ lines) = whole_line line ++ whole_lines lines

whole-with_text : (b : ℕ) (lines : List Line) → whole_lines (with_text b lines) ≡ b ∷ whole_lines lines
whole-with_text b [] = refl
whole-with_text b (line ∷ lines) = refl

-- The lines of a text that begins with LF begin with an empty text.
lf_first : (rest : List ℕ) → begins_with_lf rest ≡ true → whole_lines (with_ending 13 (lines_of rest)) ≡ 13 ∷ whole_lines (lines_of rest)
unfolding lines_of
lf_first [] h = absurd (false≢true h)
lf_first (b ∷ rest) h = rw h refl

pub whole-lines_of : (s : List ℕ) → whole_lines (lines_of s) ≡ s
unfolding lines_of
whole-lines_of [] = refl
whole-lines_of (b ∷ rest) =
    let more = whole-lines_of rest in
    elim (cases_Bool (b == 10)) [
      | inl lf ↦ rw lf (ap (λ t. b ∷ t) more)
      | inr not_lf ↦ elim (cases_Bool (b == 13)) [
        | inl cr ↦ elim (cases_Bool (begins_with_lf rest)) [
          | inl two ↦ rw (not_lf, cr) (rw two (let same = eqb-true b 13 cr in rw same (lf_first rest two ∙ ap (λ t. 13 ∷ t) more)))
          | inr one ↦ rw (not_lf, cr) (rw one (ap (λ t. b ∷ t) more))
        ]
        | inr not_cr ↦ rw (not_lf, not_cr) (whole-with_text b (lines_of rest) ∙ ap (λ t. b ∷ t) more)
      ]
    ]

-- ---- lines that go on

pub one_less : (n : ℕ) → suc (suc n) - 1 ≡ suc (suc n - 1)
one_less n = omega arith

-- a text that goes on ends in a backslash
last_backslash : (count : ℕ) (s : List ℕ) → is_odd (backslashes_behind count s) ≡ true → (0 < length s → s ≡ without_last s ++ backslash ∷ [])
last_backslash count [] odd some = absurd (omega arith)
last_backslash count (b ∷ []) odd some =
    elim (cases_Bool (b == backslash)) [
      | inl e ↦ ap (λ c. c ∷ []) (eqb-true b 92 e)
      | inr e ↦ absurd (false≢true (rw e at odd))
    ]
last_backslash count (b ∷ c ∷ rest) odd some =
    let longer : without_last (b ∷ c ∷ rest) ≡ b ∷ without_last (c ∷ rest) = ap (λ k. take k (b ∷ c ∷ rest)) (one_less (length rest)) in
    let more : c ∷ rest ≡ without_last (c ∷ rest) ++ backslash ∷ [] =
    elim (cases_Bool (b == backslash)) [
      | inl e ↦ last_backslash (count + 1) (c ∷ rest) (rw e at odd) (omega arith)
      | inr e ↦ last_backslash 0 (c ∷ rest) (rw e at odd) (omega arith)
    ] in
    ap (λ t. b ∷ t) more ∙ ap (λ t. t ++ backslash ∷ []) (sym longer)

pub ends_in_backslash : (s : List ℕ) → is_continued s ≡ true → s ≡ without_last s ++ backslash ∷ []
ends_in_backslash [] odd = absurd (false≢true odd)
ends_in_backslash (b ∷ rest) odd = last_backslash 0 (b ∷ rest) odd (omega arith)

pub blanks_first : (s : List ℕ) → s ≡ leading_blanks s ++ behind_blanks s
blanks_first [] = refl
blanks_first (b ∷ rest) = elim (cases_Bool (is_blank b)) [ inl e ↦ rw e (ap (λ t. b ∷ t) (blanks_first rest)) | inr e ↦ rw e refl ]

-- a blank is no backslash
pub blank_is_none : (b : ℕ) → is_blank b ≡ true → (b == backslash) ≡ false
blank_is_none b blank = ne_eqb b 92 (λ e. false≢true (rw e at blank))

backslashes-behind_blanks : (s : List ℕ) → backslashes_behind 0 (behind_blanks s) ≡ backslashes_behind 0 s
backslashes-behind_blanks [] = refl
backslashes-behind_blanks (b ∷ rest) = elim (cases_Bool (is_blank b)) [ inl e ↦ rw (e, blank_is_none b e) (backslashes-behind_blanks rest) | inr e ↦ rw e refl ]

pub is_continued-behind_blanks : (s : List ℕ) → is_continued (behind_blanks s) ≡ is_continued s
is_continued-behind_blanks s = ap is_odd (backslashes-behind_blanks s)

-- ---- what stands in pieces

pub bytes_of-append : (ps qs : List Piece) → bytes_of (ps ++ qs) ≡ bytes_of ps ++ bytes_of qs
bytes_of-append [] qs = refl
bytes_of-append (char b ∷ ps) qs = ap (λ t. b ∷ t) (bytes_of-append ps qs)
bytes_of-append (joint text ∷ ps) qs = ap (λ t. text ++ t) (bytes_of-append ps qs) ∙ sym (append_assoc text (bytes_of ps) (bytes_of qs))

pub take-drop-characters : (n : ℕ) (ps : List Piece) → take_characters n ps ++ drop_characters n ps ≡ ps
take-drop-characters zero ps = refl
take-drop-characters (suc n) [] = refl
take-drop-characters (suc n) (char b ∷ ps) = ap (λ t. char b ∷ t) (take-drop-characters n ps)
take-drop-characters (suc n) (joint text ∷ ps) = ap (λ t. joint text ∷ t) (take-drop-characters (suc n) ps)

bytes_of-take-drop : (n : ℕ) (ps : List Piece) → bytes_of (take_characters n ps) ++ bytes_of (drop_characters n ps) ≡ bytes_of ps
bytes_of-take-drop n ps = sym (bytes_of-append (take_characters n ps) (drop_characters n ps)) ∙ ap bytes_of (take-drop-characters n ps)

-- the bytes of a logical line
whole-alone : (text ending : List ℕ) → bytes_of (join_lines text ending []).pieces ++ (join_lines text ending []).ending ≡ (text ++ ending) ++ []
unfolding join_lines
whole-alone text ending =
    elim (cases_Bool (is_continued text)) [
      | inl e ↦ rw e (
          ap (λ t. t ++ []) (bytes_of-append (chars (without_last text)) (joint (backslash ∷ ending) ∷ []) ∙ ap (λ t. t ++ ((backslash ∷ ending) ++ [])) (bytes_of-chars (without_last text)))
          ∙ simp (append_assoc, append-nil) (sym (ap (λ t. t ++ ending) (ends_in_backslash text e) ∙ append_assoc (without_last text) (backslash ∷ []) ending)))
      | inr e ↦ rw e (ap (λ t. t ++ ending) (bytes_of-chars text) ∙ sym (append-nil (text ++ ending)))
    ]

regrouped : (w ending lead u n l : List ℕ) → w ++ (((backslash ∷ ending) ++ lead) ++ ((u ++ n) ++ l)) ≡ ((w ++ backslash ∷ []) ++ ending) ++ (((lead ++ u) ++ n) ++ l)
regrouped w ending lead u n l = simp append_assoc (ap (λ t. w ++ backslash ∷ t) (append_assoc ending lead (u ++ (n ++ l))))

whole-joined : (text ending : List ℕ) (going : Bool) (lines : List Line) → is_continued text ≡ going
    → bytes_of (join_lines text ending (group_lines going lines).0).pieces ++ (join_lines text ending (group_lines going lines).0).ending ≡ (text ++ ending) ++ whole_lines (group_lines going lines).0
unfolding join_lines group_lines
whole-joined text ending false lines e = rw (grouped-none lines) (whole-alone text ending)
whole-joined text ending true [] e = whole-alone text ending
whole-joined text ending true (next ∷ lines) e =
    let more = (group_lines (is_continued next.text) lines).0 in
    let J = join_lines (behind_blanks next.text) next.ending more in
    let lead = leading_blanks next.text in
    let w = without_last text in
    let ih = whole-joined (behind_blanks next.text) next.ending (is_continued next.text) lines (is_continued-behind_blanks next.text) in
    ap (λ t. t ++ J.ending) (bytes_of-append (chars w) (joint ((backslash ∷ ending) ++ lead) ∷ J.pieces) ∙ ap (λ t. t ++ (((backslash ∷ ending) ++ lead) ++ bytes_of J.pieces)) (bytes_of-chars w))
    ∙ (append_assoc w (((backslash ∷ ending) ++ lead) ++ bytes_of J.pieces) J.ending
    ∙ (ap (λ t. w ++ t) (append_assoc ((backslash ∷ ending) ++ lead) (bytes_of J.pieces) J.ending ∙ ap (λ t. ((backslash ∷ ending) ++ lead) ++ t) ih)
    ∙ (regrouped w ending lead (behind_blanks next.text) next.ending (whole_lines more)
    ∙ (ap (λ t. (t ++ ending) ++ (((lead ++ behind_blanks next.text) ++ next.ending) ++ whole_lines more)) (sym (ends_in_backslash text e))
    ∙ ap (λ t. (text ++ ending) ++ ((t ++ next.ending) ++ whole_lines more)) (sym (blanks_first next.text))))))

-- ---- what stands in entries

abbrev whole : Properties → List ℕ
whole p = whole_of p.entries p.rest

whole-entry_of : (prefix : List ℕ) (line : JoinedLine) → whole_entry (entry_of prefix line) ≡ prefix ++ (bytes_of line.pieces ++ line.ending)
unfolding entry_of
whole-entry_of prefix line =
    let k = key_length (characters_of line.pieces) in
    let after = drop_characters k line.pieces in
    let m = separator_length (drop k (characters_of line.pieces)) in
    ap (λ t. prefix ++ t)
    (ap (λ t. bytes_of (take_characters k line.pieces) ++ t) (sym (append_assoc (bytes_of (take_characters m after)) (bytes_of (drop_characters m after)) line.ending) ∙ ap (λ t. t ++ line.ending) (bytes_of-take-drop m after))
    ∙ (sym (append_assoc (bytes_of (take_characters k line.pieces)) (bytes_of after) line.ending) ∙ ap (λ t. t ++ line.ending) (bytes_of-take-drop k line.pieces)))

-- the entries of lines, where a prefix stands before them, and where what stands before goes on in them
record AreWhole (lines : List Line) : Type 0 where
  fresh : (before : List ℕ) → whole (entries_of before (group_lines false lines).1) ≡ before ++ whole_lines lines
  going : whole_lines (group_lines true lines).0 ++ whole (entries_of [] (group_lines true lines).1) ≡ whole_lines lines

after : (lines : List Line) → AreWhole lines → (going : Bool) → whole_lines (group_lines going lines).0 ++ whole (entries_of [] (group_lines going lines).1) ≡ whole_lines lines
after lines are true = are.going
after lines are false = ap (λ ls. whole_lines ls ++ whole (entries_of [] (group_lines false lines).1)) (grouped-none lines) ∙ are.fresh []

one_entry : (before : List ℕ) (line : Line) (lines : List Line) → AreWhole lines
    → whole_entry (entry_of (before ++ leading_blanks line.text) (join_lines (behind_blanks line.text) line.ending (group_lines (is_continued line.text) lines).0)) ++ whole (entries_of [] (group_lines (is_continued line.text) lines).1)
    ≡ before ++ (whole_line line ++ whole_lines lines)
one_entry before line lines are =
    let g = is_continued line.text in
    let J = join_lines (behind_blanks line.text) line.ending (group_lines g lines).0 in
    let rest = whole (entries_of [] (group_lines g lines).1) in
    let lead = leading_blanks line.text in
    ap (λ t. t ++ rest) (whole-entry_of (before ++ lead) J ∙ ap (λ t. (before ++ lead) ++ t) (whole-joined (behind_blanks line.text) line.ending g lines (is_continued-behind_blanks line.text)))
    ∙ (regroup before lead (behind_blanks line.text) line.ending (whole_lines (group_lines g lines).0) rest
    ∙ (ap (λ t. before ++ ((t ++ line.ending) ++ (whole_lines (group_lines g lines).0 ++ rest))) (sym (blanks_first line.text))
    ∙ ap (λ t. before ++ (whole_line line ++ t)) (after lines are g)))
  where
    regroup : (a b c d e f : List ℕ) → ((a ++ b) ++ ((c ++ d) ++ e)) ++ f ≡ a ++ (((b ++ c) ++ d) ++ (e ++ f))
    regroup a b c d e f = simp append_assoc

are_whole : (lines : List Line) → AreWhole lines
unfolding group_lines entries_of
are_whole [] = record { fresh = λ before. sym (append-nil before); going = refl }
are_whole (line ∷ lines) =
    let more = are_whole lines in
    record {
      fresh = λ before. elim (cases_Bool (is_passed_over line)) [
        | inl e ↦ ap (λ (g : List Line × List LogicalLine). whole (entries_of before g.1)) (grouped-passed line lines e) ∙ (more.fresh (before ++ whole_line line) ∙ append_assoc before (whole_line line) (whole_lines lines))
        | inr e ↦ ap (λ (g : List Line × List LogicalLine). whole (entries_of before g.1)) (grouped-begins line lines e) ∙ one_entry before line lines more
      ];
      going = append_assoc (whole_line line) (whole_lines (group_lines (is_continued line.text) lines).0) (whole (entries_of [] (group_lines (is_continued line.text) lines).1))
          ∙ ap (λ t. whole_line line ++ t) (after lines more (is_continued line.text));
    }

-- the parts of the entries and the rest, joined, are the bytes
pub whole-properties_of : (bytes : List ℕ) → whole_of (properties_of bytes).entries (properties_of bytes).rest ≡ bytes
unfolding properties_of
whole-properties_of bytes = (are_whole (lines_of bytes)).fresh [] ∙ whole-lines_of bytes

-- the same of the entries from a line on, behind a prefix
pub whole-entries_from : (before text : List ℕ) → whole_of (entries_from before text).entries (entries_from before text).rest ≡ before ++ text
unfolding entries_from
whole-entries_from before text = (are_whole (lines_of text)).fresh before ∙ ap (λ t. before ++ t) (whole-lines_of text)

-- ---- leaves

pub entry_end-is : (at : ℕ) (e : Entry) → entry_end at e ≡ at + length (whole_entry e)
entry_end-is at e = simp length-append (omega arith)

end_from-leaves : (at : ℕ) (es : List Entry) (rest : List ℕ) → end_from at (leaves_from at es rest) ≡ at + length (whole_of es rest)
unfolding ending_to
end_from-leaves at [] rest = add-zero (at + length rest)
end_from-leaves at (e ∷ es) rest =
    ap (λ k. end_from k (leaves_from (entry_end at e) es rest)) (sym (ending_to-is at e))
    ∙ (end_from-leaves (entry_end at e) es rest
    ∙ (let here = entry_end-is at e in let all = length-append (whole_entry e) (whole_of es rest) in omega arith))

pub part_at : (bytes a b c : List ℕ) (from to : ℕ) → bytes ≡ a ++ (b ++ c) → length a ≡ from → from + length b ≡ to → slice_range bytes from to ≡ b
part_at bytes a b c from to all front back =
    let size : to - from ≡ length b = omega arith in
    rw (size, all) (rw (drop_at a (b ++ c) from front) (take_at b c (length b) refl))

key_at : (bytes before : List ℕ) (at : ℕ) (es : List Entry) (rest : List ℕ) (k : ℕ) → k < length es → length before ≡ at → bytes ≡ before ++ whole_of es rest
    → text_of bytes (leaf_at (leaves_from at es rest) (4 * k)) ≡ bytes_of (get_or es k no_entry).key
unfolding leaf_at
key_at bytes before at [] rest k h long all = absurd (omega arith)
key_at bytes before at (e ∷ es) rest zero h long all =
    part_at bytes (before ++ e.prefix) (bytes_of e.key) ((bytes_of e.separator ++ (bytes_of e.value ++ e.ending)) ++ whole_of es rest) (at + length e.prefix) (at + length e.prefix + length (bytes_of e.key))
    (all ∙ simp append_assoc) (length-append before e.prefix ∙ ap (λ n. n + length e.prefix) long) refl
key_at bytes before at (e ∷ es) rest (suc k) h long all =
    ap (λ n. text_of bytes (leaf_at (leaves_from at (e ∷ es) rest) n)) (four_more k)
    ∙ key_at bytes (before ++ whole_entry e) (entry_end at e) es rest k (omega arith)
    (length-append before (whole_entry e) ∙ (ap (λ n. n + length (whole_entry e)) long ∙ sym (entry_end-is at e)))
    (all ∙ sym (append_assoc before (whole_entry e) (whole_of es rest)))

-- the value stands behind the key and the separator
value_at : (bytes before : List ℕ) (at : ℕ) (es : List Entry) (rest : List ℕ) (k : ℕ) → k < length es → length before ≡ at → bytes ≡ before ++ whole_of es rest
    → text_of bytes (leaf_at (leaves_from at es rest) (4 * k + 2)) ≡ bytes_of (get_or es k no_entry).value
unfolding leaf_at
value_at bytes before at [] rest k h long all = absurd (omega arith)
value_at bytes before at (e ∷ es) rest zero h long all =
    let front = ((before ++ e.prefix) ++ bytes_of e.key) ++ bytes_of e.separator in
    let size : length front ≡ at + length e.prefix + length (bytes_of e.key) + 0 + length (bytes_of e.separator) + 0 =
    let a = length-append before e.prefix in
    let b = length-append (before ++ e.prefix) (bytes_of e.key) in
    let c = length-append ((before ++ e.prefix) ++ bytes_of e.key) (bytes_of e.separator) in
    omega arith in
    part_at bytes front (bytes_of e.value) (e.ending ++ whole_of es rest) (at + length e.prefix + length (bytes_of e.key) + 0 + length (bytes_of e.separator) + 0)
    (at + length e.prefix + length (bytes_of e.key) + 0 + length (bytes_of e.separator) + 0 + length (bytes_of e.value))
    (all ∙ simp append_assoc) size refl
value_at bytes before at (e ∷ es) rest (suc k) h long all =
    let index : 4 * suc k + 2 ≡ suc (suc (suc (suc (4 * k + 2)))) = omega arith in
    ap (λ n. text_of bytes (leaf_at (leaves_from at (e ∷ es) rest) n)) index
    ∙ value_at bytes (before ++ whole_entry e) (entry_end at e) es rest k (omega arith)
    (length-append before (whole_entry e) ∙ (ap (λ n. n + length (whole_entry e)) long ∙ sym (entry_end-is at e)))
    (all ∙ sym (append_assoc before (whole_entry e) (whole_of es rest)))

-- ---- the tree

module _ (bytes : List ℕ) where
  pub key_leaf_text : (n : ℕ) → n < length (properties_of bytes).entries → text_of bytes (leaf_at (tree_of bytes).leaves (4 * n)) ≡ bytes_of (entry_at bytes n).key
  unfolding tree_of
  key_leaf_text n there = key_at bytes [] 0 (properties_of bytes).entries (properties_of bytes).rest n there refl (sym (whole-properties_of bytes))

  pub value_leaf_text : (n : ℕ) → n < length (properties_of bytes).entries → text_of bytes (leaf_at (tree_of bytes).leaves (4 * n + 2)) ≡ bytes_of (entry_at bytes n).value
  unfolding tree_of
  value_leaf_text n there = value_at bytes [] 0 (properties_of bytes).entries (properties_of bytes).rest n there refl (sym (whole-properties_of bytes))

  pub end_of-tree_of : end_of (tree_of bytes) ≡ length bytes
  unfolding tree_of
  end_of-tree_of = end_from-leaves 0 (properties_of bytes).entries (properties_of bytes).rest ∙ (let all = ap length (whole-properties_of bytes) in omega arith)

  pub leaves-tree_of : length (tree_of bytes).leaves ≡ 4 * length (properties_of bytes).entries + 1
  unfolding tree_of
  leaves-tree_of = length-leaves_from 0 (properties_of bytes).entries (properties_of bytes).rest

  pub nodes-tree_of : length (tree_of bytes).nodes ≡ length (properties_of bytes).entries + 1
  unfolding tree_of
  nodes-tree_of = length-nodes (properties_of bytes).entries
