-- The entry that a text begins with, from its bytes.
use Rattle.std.proofs.Common.{◌≡◌, ℕ, zero, suc, ◌+◌, ◌≤◌, true, false, List, [], ◌∷◌, ◌++◌, length, drop, refl, sym, ◌∙◌, ap, arith, inl, inr, length-append}
use Rattle.std.proofs.lemmas.Bool.{cases_Bool}
use Rattle.std.proofs.lemmas.List.{drop-drop, append_cancel_left}
use Rattle.properties_tree.specs.Characters.{is_blank, is_separator}
use Rattle.rw_base.specs.NaturalLines.{Line}
use Rattle.properties_tree.specs.Lines.{leading_blanks, behind_blanks, is_continued, is_empty_or_comment}
use Rattle.properties_tree.specs.Entries.{LogicalLine, Piece, char, joint, bytes_of, characters_of, JoinedLine, join_lines, group_lines, logical_lines, take_characters, drop_characters, Entry, entry_of, entries_of, key_length, separator_length, begins_with_separator}
use Rattle.properties_tree.specs.Sizes.{ending_length, entries_from, with_entry}
use Rattle.properties_tree.specs.Cutting.{joins, pieces_in, key_front, separator_front, separator_from, key_size, separator_size, line_size}
use Rattle.properties_tree.proofs.FirstLine.{line_text, behind_text, ending_text, lines_behind, line_of, first_line, entries_behind, some_ending}
use Rattle.properties_tree.proofs.Plain.{grouped-begins}
use Rattle.properties_tree.proofs.Whole.{bytes_of-append, take-drop-characters, is_continued-behind_blanks}
use Rattle.properties_tree.proofs.Cut.{cut, IsFront, line_front, key_is_front, separator_is_front, pieces-behind, pieces-alone, front_length}
use Rattle.properties_tree.proofs.Logical.{logical, blanked}

-- ---- counts of characters

characters_of-drop : (n : ℕ) (ps : List Piece) → characters_of (drop_characters n ps) ≡ drop n (characters_of ps)
characters_of-drop zero ps = refl
characters_of-drop (suc n) [] = refl
characters_of-drop (suc n) (char b ∷ ps) = characters_of-drop n ps
characters_of-drop (suc n) (joint text ∷ ps) = characters_of-drop (suc n) ps

separator_from-true : (m : List ℕ) → separator_from true m ≡ length (leading_blanks m)
separator_from-true [] = refl
separator_from-true (b ∷ rest) = elim (cases_Bool (is_blank b)) [ inl e ↦ rw e (ap suc (separator_from-true rest)) | inr e ↦ rw e refl ]

separator_length-cons : (b : ℕ) (rest : List ℕ) → is_blank b ≡ true → separator_length (b ∷ rest) ≡ suc (separator_length rest)
separator_length-cons b rest e = elim (cases_Bool (begins_with_separator (behind_blanks rest))) [ inl mark ↦ rw (e, mark) (omega arith) | inr none ↦ rw (e, none) refl ]

separator_from-cons : (b : ℕ) (rest : List ℕ) → is_blank b ≡ true → separator_from false (b ∷ rest) ≡ suc (separator_from false rest)
separator_from-cons b rest e = rw e refl

pub separator_from-false : (m : List ℕ) → separator_from false m ≡ separator_length m
separator_from-false [] = refl
separator_from-false (b ∷ rest) =
    elim (cases_Bool (is_blank b)) [
      | inl e ↦ separator_from-cons b rest e ∙ (ap suc (separator_from-false rest) ∙ sym (separator_length-cons b rest e))
      | inr e ↦ elim (cases_Bool (is_separator b)) [ inl mark ↦ rw (e, mark) (rw (separator_from-true rest) (omega arith)) | inr none ↦ rw (e, none) refl ]
    ]

-- ---- the parts of an entry

module _ (u : List ℕ) where
  abbrev pub behind_key : List ℕ
  behind_key = drop (key_size u) u

  abbrev pub behind_separator : List ℕ
  behind_separator = drop (separator_size behind_key) behind_key

  key : IsFront u (key_front (pieces_in u))
  key = key_is_front u (cut u)

  separator : IsFront behind_key (separator_front false (pieces_in behind_key))
  separator = separator_is_front false behind_key (cut behind_key)

  -- the pieces behind the key, and those behind the separator
  key_left : drop_characters (key_length (characters_of (pieces_in u))) (pieces_in u) ≡ pieces_in behind_key
  key_left =
      let k = key_length (characters_of (pieces_in u)) in
      append_cancel_left (take_characters k (pieces_in u)) (drop_characters k (pieces_in u)) (pieces_in behind_key) (take-drop-characters k (pieces_in u) ∙ pieces-behind u (key_front (pieces_in u)) key)

  separator_left : drop_characters (separator_from false (characters_of (pieces_in behind_key))) (pieces_in behind_key) ≡ pieces_in behind_separator
  separator_left =
      let m = separator_from false (characters_of (pieces_in behind_key)) in
      append_cancel_left (take_characters m (pieces_in behind_key)) (drop_characters m (pieces_in behind_key)) (pieces_in behind_separator)
      (take-drop-characters m (pieces_in behind_key) ∙ pieces-behind behind_key (separator_front false (pieces_in behind_key)) separator)

  parts : pieces_in u ≡ key_front (pieces_in u) ++ (separator_front false (pieces_in behind_key) ++ pieces_in behind_separator)
  parts = pieces-behind u (key_front (pieces_in u)) key ∙ ap (λ ps. key_front (pieces_in u) ++ ps) (pieces-behind behind_key (separator_front false (pieces_in behind_key)) separator)

  -- the bytes of the parts are those of the line
  pub sizes : line_size u ≡ key_size u + (separator_size behind_key + line_size behind_separator)
  sizes =
      let a = key_front (pieces_in u) in
      let b = separator_front false (pieces_in behind_key) in
      let all = ap (λ ps. length (bytes_of ps)) parts ∙ ap length (bytes_of-append a (b ++ pieces_in behind_separator) ∙ ap (λ x. bytes_of a ++ x) (bytes_of-append b (pieces_in behind_separator))) in
      all ∙ (length-append (bytes_of a) (bytes_of b ++ bytes_of (pieces_in behind_separator)) ∙ ap (λ n. length (bytes_of a) + n) (length-append (bytes_of b) (bytes_of (pieces_in behind_separator))))

  pub behind_line : drop (line_size behind_separator) behind_separator ≡ drop (line_size u) u
  behind_line =
      drop-drop (line_size behind_separator) (separator_size behind_key) behind_key
      ∙ (drop-drop (separator_size behind_key + line_size behind_separator) (key_size u) u ∙ ap (λ n. drop n u) (sym sizes))

  abbrev pub cut_entry : List ℕ → List ℕ → Entry
  cut_entry prefix ending = record { prefix = prefix; key = key_front (pieces_in u); separator = separator_front false (pieces_in behind_key); value = pieces_in behind_separator; ending = ending }

  pub entry_of-pieces : (prefix ending : List ℕ) → entry_of prefix (record { pieces = pieces_in u; ending = ending }) ≡ cut_entry prefix ending
  unfolding entry_of
  entry_of-pieces prefix ending =
      let ps = pieces_in u in
      let k = key_length (characters_of ps) in
      ap (λ (m : List ℕ). record { prefix = prefix; key = key_front ps; separator = take_characters (separator_length m) (drop_characters k ps); value = drop_characters (separator_length m) (drop_characters k ps); ending = ending }) (sym (characters_of-drop k ps))
      ∙ (ap (λ (n : ℕ). record { prefix = prefix; key = key_front ps; separator = take_characters n (drop_characters k ps); value = drop_characters n (drop_characters k ps); ending = ending }) (sym (separator_from-false (characters_of (drop_characters k ps))))
      ∙ (ap (λ (qs : List Piece). record { prefix = prefix; key = key_front ps; separator = separator_front false qs; value = drop_characters (separator_from false (characters_of qs)) qs; ending = ending }) key_left
      ∙ ap (λ (v : List Piece). record { prefix = prefix; key = key_front ps; separator = separator_front false (pieces_in behind_key); value = v; ending = ending }) separator_left))

  -- the bytes of a key alone say the key, and so do those of a value
  pub key_alone : pieces_in (bytes_of (key_front (pieces_in u))) ≡ key_front (pieces_in u)
  key_alone = pieces-alone u (key_front (pieces_in u)) key

  pub value_alone : pieces_in (bytes_of (pieces_in behind_separator)) ≡ pieces_in behind_separator
  value_alone = pieces-alone behind_separator (pieces_in behind_separator) (line_front behind_separator (cut behind_separator))

  pub key-le : key_size u ≤ length u
  key-le = front_length u (key_front (pieces_in u)) key

  pub separator-le : separator_size behind_key ≤ length behind_key
  separator-le = front_length behind_key (separator_front false (pieces_in behind_key)) separator

-- the bytes of a separator, and what stands behind it, as those of a line
pub size-le : (s : List ℕ) → separator_size s ≤ length s
size-le s = front_length s (separator_front false (pieces_in s)) (separator_is_front false s (cut s))

pub line_parts : (s : List ℕ) → line_size s ≡ separator_size s + line_size (drop (separator_size s) s)
line_parts s =
    let done = separator_front false (pieces_in s) in
    ap (λ ps. length (bytes_of ps)) (pieces-behind s done (separator_is_front false s (cut s)))
    ∙ (ap length (bytes_of-append done (pieces_in (drop (separator_size s) s))) ∙ length-append (bytes_of done) (bytes_of (pieces_in (drop (separator_size s) s))))

pub line-le : (s : List ℕ) → line_size s ≤ length s
line-le s = front_length s (pieces_in s) (line_front s (cut s))

-- ---- the entry that a text begins with

nothing_left : (t : List ℕ) → joins t ≡ true → ending_length t ≡ 0 → t ≡ []
nothing_left [] j none = refl
nothing_left (b ∷ rest) j none = absurd (some_ending b rest j none)

module _ (s : List ℕ) where
  abbrev pub entry_text : List ℕ
  entry_text = behind_blanks s

  abbrev pub behind_entry : List ℕ
  behind_entry = drop (line_size entry_text) entry_text

  pub entry_begins : is_empty_or_comment (behind_blanks (line_text s)) ≡ false → (before : List ℕ)
      → entries_from before s ≡ with_entry (cut_entry entry_text (before ++ leading_blanks s) (ending_text behind_entry)) (entries_from [] (drop (ending_length behind_entry) behind_entry))
  unfolding entries_from entries_of
  entry_begins starts before =
      let u = entry_text in
      let L = lines_behind (behind_text s) in
      let g = is_continued (line_text s) in
      let B = blanked s in
      let line = logical u in
      let goes : g ≡ is_continued (line_text u) = sym (is_continued-behind_blanks (line_text s)) ∙ ap is_continued B.text in
      let J : join_lines (behind_blanks (line_text s)) (ending_text (behind_text s)) (group_lines g L).0 ≡ record { pieces = pieces_in u; ending = ending_text behind_entry } =
      ap (λ x. join_lines x (ending_text (behind_text s)) (group_lines g L).0) B.text
      ∙ (ap (λ x. join_lines (line_text u) (ending_text (behind_text s)) (group_lines x L).0) goes
      ∙ (ap (λ r. join_lines (line_text u) (ending_text r) (group_lines (is_continued (line_text u)) (lines_behind r)).0) (sym B.rest) ∙ line.line)) in
      let M : (group_lines g L).1 ≡ logical_lines (lines_behind behind_entry) =
      ap (λ x. (group_lines x L).1) goes ∙ (ap (λ r. (group_lines (is_continued (line_text u)) (lines_behind r)).1) (sym B.rest) ∙ line.more) in
      ap (λ ls. entries_of before (logical_lines ls)) (first_line s)
      ∙ (ap (λ (x : List Line × List LogicalLine). entries_of before x.1) (grouped-begins (line_of s) L starts)
      ∙ (ap (λ (j : JoinedLine). with_entry (entry_of (before ++ leading_blanks (line_text s)) j) (entries_of [] (group_lines g L).1)) J
      ∙ (ap (λ (b : List ℕ). with_entry (entry_of (before ++ b) (record { pieces = pieces_in u; ending = ending_text behind_entry })) (entries_of [] (group_lines g L).1)) B.blanks
      ∙ (ap (λ (e : Entry). with_entry e (entries_of [] (group_lines g L).1)) (entry_of-pieces u (before ++ leading_blanks s) (ending_text behind_entry))
      ∙ (ap (λ (ls : List LogicalLine). with_entry (cut_entry u (before ++ leading_blanks s) (ending_text behind_entry)) (entries_of [] ls)) M
      ∙ ap (with_entry (cut_entry u (before ++ leading_blanks s) (ending_text behind_entry))) (entries_behind [] behind_entry (nothing_left behind_entry line.end)))))))
