-- The new text with a renaming's edits, leaf by leaf, is the file with those keys written anew.
use Rattle.std.proofs.Common.{◌≡◌, ◌≢◌, ℕ, zero, suc, ◌+◌, ◌*◌, ◌-◌, ◌<◌, ◌≤◌, List, [], ◌∷◌, ◌++◌, length, get_or, inl, inr, refl, sym, ap, ◌∙◌, append_assoc, append-nil, arith, length-append}
use Rattle.std.specs.Prelude.{slice_range, Option, Some, None, unwrap_or, if◌then◌else◌}
use Rattle.std.proofs.lemmas.Bool.{cases_Bool, ne_eqb, eq-eqb}
use Rattle.std.proofs.lemmas.List.{take_at, drop_at}
use Rattle.std.specs.Str.{bytes_eq}
use Rattle.rw_base.specs.NewText.{leaf_edit, edit_at, leaves_new, AreLeafEdits}
use Rattle.rw_base.specs.Laws.{leaf_edits_new}
use Rattle.rw_base.specs.declared.edit.Edit.{Edit}
use Rattle.properties_tree.specs.Decoding.{key_text}
use Rattle.properties_tree.specs.Entries.{Entry, properties_of, no_entry, bytes_of}
use Rattle.properties_tree.specs.Keys.{key_or, entries_with, with_key}
use Rattle.properties_tree.specs.Laws.{PartsAreTheFile, FilesHaveTrees, EntriesHaveFourLeaves, whole_entry, whole_of}
use Rattle.properties_tree.specs.Layout.{leaves_from, entry_end, tree_of}
use Rattle.properties_tree.specs.Spelling.{spelled_key}
use Rattle.conf_recipes.proofs.KeyEdits.{are_leaf_edits}
use Rattle.conf_recipes.specs.PropertiesEdits.{key_edits, EditsWriteKeys}

-- ---- the edit of a leaf

module _ (old new : List ℕ) where
  -- what the edits put in the place of an entry's key
  abbrev pub picked : Entry → Option (List ℕ)
  picked e = if bytes_eq (key_text e) old then Some (spelled_key new) else None

  -- a leaf that is no key of these entries, the first of which has the number m
  pub no_edit : (m j : ℕ) (es : List Entry) → ((n : ℕ) → m ≤ n → n < m + length es → 4 * n ≢ j) → leaf_edit (key_edits old new m es) j ≡ None
  unfolding key_edits leaf_edit edit_at
  no_edit m j [] other = refl
  no_edit m j (e ∷ es) other =
      let more = no_edit (m + 1) j es (λ n low high. other n (omega arith) (omega arith)) in
      elim (cases_Bool (bytes_eq (key_text e) old)) [
        | inl same ↦ rw same (rw (ne_eqb (4 * m) j (other m (omega arith) (omega arith))) more)
        | inr differ ↦ rw differ more
      ]

  pub key_edited : (m : ℕ) (es : List Entry) (k : ℕ) → k < length es → leaf_edit (key_edits old new m es) (4 * (m + k)) ≡ picked (get_or es k no_entry)
  unfolding key_edits leaf_edit edit_at
  key_edited m [] k h = absurd (omega arith)
  key_edited m (e ∷ es) zero h =
      let here : 4 * m ≡ 4 * (m + 0) = omega arith in
      elim (cases_Bool (bytes_eq (key_text e) old)) [
        | inl same ↦ rw same (rw (eq-eqb (4 * m) (4 * (m + 0)) here) (ap Some (append-nil (spelled_key new))))
        | inr differ ↦ rw differ (no_edit (m + 1) (4 * (m + 0)) es (λ n low high. λ e. omega arith))
      ]
  key_edited m (e ∷ es) (suc k) h =
      let next : 4 * (m + suc k) ≡ 4 * (m + 1 + k) = omega arith in
      let more = ap (leaf_edit (key_edits old new (m + 1) es)) next ∙ key_edited (m + 1) es k (omega arith) in
      elim (cases_Bool (bytes_eq (key_text e) old)) [
        | inl same ↦ rw same (rw (ne_eqb (4 * m) (4 * (m + suc k)) (λ e. omega arith)) more)
        | inr differ ↦ rw differ more
      ]

-- ---- the text of a leaf

part_at : (bytes a b c : List ℕ) (from to : ℕ) → bytes ≡ a ++ (b ++ c) → length a ≡ from → from + length b ≡ to → slice_range bytes from to ≡ b
part_at bytes a b c from to all front back =
    let size : to - from ≡ length b = omega arith in
    rw (size, all) (rw (drop_at a (b ++ c) from front) (take_at b c (length b) refl))

-- ---- leaf by leaf

-- edits that give entries, the first of which has the number n, these keys, and nothing else
record AreFor (edits : List Edit) (old new : List ℕ) (n : ℕ) (es : List Entry) : Type 0 where
  key : (k : ℕ) → k < length es → leaf_edit edits (4 * (n + k)) ≡ picked old new (get_or es k no_entry)
  others : (k r : ℕ) → k < length es → 0 < r → r < 4 → leaf_edit edits (4 * (n + k) + r) ≡ None
  end : leaf_edit edits (4 * (n + length es)) ≡ None

module _ (bytes old new : List ℕ) (edits : List Edit) where
  picked_or : (e : Entry) → unwrap_or (picked old new e) (bytes_of e.key) ≡ key_or old (spelled_key new) e
  picked_or e = elim (cases_Bool (bytes_eq (key_text e) old)) [ inl same ↦ rw same refl | inr differ ↦ rw differ refl ]

  for_more : (n : ℕ) (e : Entry) (es : List Entry) → AreFor edits old new n (e ∷ es) → AreFor edits old new (n + 1) es
  for_more n e es are = record {
    key = λ k h. let next : 4 * (n + 1 + k) ≡ 4 * (n + suc k) = omega arith in ap (leaf_edit edits) next ∙ are.key (suc k) (omega arith);
    others = λ k r h low high. let next : 4 * (n + 1 + k) + r ≡ 4 * (n + suc k) + r = omega arith in ap (leaf_edit edits) next ∙ are.others (suc k) r (omega arith) low high;
    end = let next : 4 * (n + 1 + length es) ≡ 4 * (n + suc (length es)) = omega arith in ap (leaf_edit edits) next ∙ are.end;
  }

  -- one leaf: what stands before it, its prefix and text, and what stands behind it
  one_leaf : (at p t : ℕ) (before prefix text more : List ℕ) (edited : Option (List ℕ)) (i : ℕ)
      → bytes ≡ before ++ (prefix ++ (text ++ more)) → length before ≡ at → p ≡ at + length prefix → t ≡ p + length text → leaf_edit edits i ≡ edited
      → slice_range bytes at p ++ unwrap_or (leaf_edit edits i) (slice_range bytes p t) ≡ prefix ++ unwrap_or edited text
  one_leaf at p t before prefix text more edited i all long p_is t_is told =
      let first = part_at bytes before prefix (text ++ more) at p all long (sym p_is) in
      let second = part_at bytes (before ++ prefix) text more p t (all ∙ sym (append_assoc before prefix (text ++ more))) (length-append before prefix ∙ omega (arith, long, p_is)) (sym t_is) in
      rw (first, told) (ap (λ x. prefix ++ unwrap_or edited x) second)

  -- the same of a leaf without a prefix and without an edit
  plain_leaf : (at p t : ℕ) (before text more : List ℕ) (i : ℕ) → bytes ≡ before ++ (text ++ more) → length before ≡ at → p ≡ at + 0 → t ≡ p + length text → leaf_edit edits i ≡ None
      → slice_range bytes at p ++ unwrap_or (leaf_edit edits i) (slice_range bytes p t) ≡ text
  plain_leaf at p t before text more i all long p_is t_is told = one_leaf at p t before [] text more None i all long p_is t_is told

  -- the leaves of an entry, and of those behind it
  module _ (n at : ℕ) (before : List ℕ) (e : Entry) (es : List Entry) (rest : List ℕ) (long : length before ≡ at) (all : bytes ≡ before ++ whole_of (e ∷ es) rest) (are : AreFor edits old new n (e ∷ es)) where
    abbrev left : List ℕ
    left = whole_of es rest

    abbrev key_to : ℕ
    key_to = at + length e.prefix + length (bytes_of e.key)

    abbrev separator_to : ℕ
    separator_to = key_to + 0 + length (bytes_of e.separator)

    abbrev value_to : ℕ
    value_to = separator_to + 0 + length (bytes_of e.value)

    abbrev before_separator : List ℕ
    before_separator = before ++ (e.prefix ++ bytes_of e.key)

    abbrev before_value : List ℕ
    before_value = before_separator ++ bytes_of e.separator

    abbrev before_ending : List ℕ
    before_ending = before_value ++ bytes_of e.value

    long_separator : length before_separator ≡ key_to
    long_separator = length-append before (e.prefix ++ bytes_of e.key) ∙ omega (arith, long, length-append e.prefix (bytes_of e.key))

    long_value : length before_value ≡ separator_to
    long_value = length-append before_separator (bytes_of e.separator) ∙ omega (arith, long_separator)

    long_ending : length before_ending ≡ value_to
    long_ending = length-append before_value (bytes_of e.value) ∙ omega (arith, long_value)

    key_leaf : slice_range bytes at (at + length e.prefix) ++ unwrap_or (leaf_edit edits (4 * n)) (slice_range bytes (at + length e.prefix) key_to) ≡ e.prefix ++ key_or old (spelled_key new) e
    key_leaf =
        let here : 4 * n ≡ 4 * (n + 0) = omega arith in
        one_leaf at (at + length e.prefix) key_to before e.prefix (bytes_of e.key) (bytes_of e.separator ++ (bytes_of e.value ++ (e.ending ++ left))) (picked old new e) (4 * n)
        (all ∙ simp append_assoc) long refl refl (ap (leaf_edit edits) here ∙ are.key 0 (omega arith))
        ∙ ap (λ x. e.prefix ++ x) (picked_or e)

    separator_leaf : slice_range bytes key_to (key_to + 0) ++ unwrap_or (leaf_edit edits (4 * n + 1)) (slice_range bytes (key_to + 0) separator_to) ≡ bytes_of e.separator
    separator_leaf =
        let here : 4 * n + 1 ≡ 4 * (n + 0) + 1 = omega arith in
        plain_leaf key_to (key_to + 0) separator_to before_separator (bytes_of e.separator) (bytes_of e.value ++ (e.ending ++ left)) (4 * n + 1)
        (all ∙ simp append_assoc) long_separator refl refl (ap (leaf_edit edits) here ∙ are.others 0 1 (omega arith) (omega arith) (omega arith))

    value_leaf : slice_range bytes separator_to (separator_to + 0) ++ unwrap_or (leaf_edit edits (4 * n + 1 + 1)) (slice_range bytes (separator_to + 0) value_to) ≡ bytes_of e.value
    value_leaf =
        let here : 4 * n + 1 + 1 ≡ 4 * (n + 0) + 2 = omega arith in
        plain_leaf separator_to (separator_to + 0) value_to before_value (bytes_of e.value) (e.ending ++ left) (4 * n + 1 + 1)
        (all ∙ simp append_assoc) long_value refl refl (ap (leaf_edit edits) here ∙ are.others 0 2 (omega arith) (omega arith) (omega arith))

    ending_leaf : slice_range bytes value_to (value_to + 0) ++ unwrap_or (leaf_edit edits (4 * n + 1 + 1 + 1)) (slice_range bytes (value_to + 0) (value_to + 0 + length e.ending)) ≡ e.ending
    ending_leaf =
        let here : 4 * n + 1 + 1 + 1 ≡ 4 * (n + 0) + 3 = omega arith in
        plain_leaf value_to (value_to + 0) (value_to + 0 + length e.ending) before_ending e.ending left (4 * n + 1 + 1 + 1)
        (all ∙ simp append_assoc) long_ending refl refl (ap (leaf_edit edits) here ∙ are.others 0 3 (omega arith) (omega arith) (omega arith))

    entry_new : (behind : List ℕ) → leaves_new edits bytes (4 * (n + 1)) (leaves_from (entry_end at e) es rest) ≡ behind
        → leaves_new edits bytes (4 * n) (leaves_from at (e ∷ es) rest) ≡ (e.prefix ++ (key_or old (spelled_key new) e ++ (bytes_of e.separator ++ (bytes_of e.value ++ e.ending)))) ++ behind
    unfolding leaves_new
    entry_new behind is =
        let next : 4 * n + 1 + 1 + 1 + 1 ≡ 4 * (n + 1) = omega arith in
        let more : leaves_new edits bytes (4 * n + 1 + 1 + 1 + 1) (leaves_from (entry_end at e) es rest) ≡ behind = ap (λ k. leaves_new edits bytes k (leaves_from (entry_end at e) es rest)) next ∙ is in
        rw (key_leaf, separator_leaf, value_leaf, ending_leaf, more) (regrouped e.prefix (key_or old (spelled_key new) e) (bytes_of e.separator) (bytes_of e.value) e.ending behind)
      where
        regrouped : (p k s v e r : List ℕ) → (p ++ k) ++ (s ++ (v ++ (e ++ r))) ≡ (p ++ (k ++ (s ++ (v ++ e)))) ++ r
        regrouped p k s v e r = simp append_assoc

    longer : length (before ++ whole_entry e) ≡ entry_end at e
    longer =
        length-append before (whole_entry e)
        ∙ omega (
          arith,
          long,
          length-append e.prefix (bytes_of e.key ++ (bytes_of e.separator ++ (bytes_of e.value ++ e.ending))),
          length-append (bytes_of e.key) (bytes_of e.separator ++ (bytes_of e.value ++ e.ending)),
          length-append (bytes_of e.separator) (bytes_of e.value ++ e.ending),
          length-append (bytes_of e.value) e.ending,
        )

  end_new : (n at : ℕ) (before rest : List ℕ) → length before ≡ at → bytes ≡ before ++ rest → AreFor edits old new n [] → leaves_new edits bytes (4 * n) (leaves_from at [] rest) ≡ rest
  unfolding leaves_new
  end_new n at before rest long all are =
      let here : 4 * n ≡ 4 * (n + 0) = omega arith in
      ap (λ t. t ++ []) (one_leaf at (at + length rest) (at + length rest + 0) before rest [] [] None (4 * n) (all ∙ simp append-nil) long refl refl (ap (leaf_edit edits) here ∙ are.end))
      ∙ (append-nil (rest ++ []) ∙ append-nil rest)

  leaves_are : (n at : ℕ) (before : List ℕ) (es : List Entry) (rest : List ℕ) → length before ≡ at → bytes ≡ before ++ whole_of es rest → AreFor edits old new n es
      → leaves_new edits bytes (4 * n) (leaves_from at es rest) ≡ entries_with old (spelled_key new) es rest
  leaves_are n at before [] rest long all are = end_new n at before rest long all are
  leaves_are n at before (e ∷ es) rest long all are =
      entry_new n at before e es rest long all are (entries_with old (spelled_key new) es rest)
      (leaves_are (n + 1) (entry_end at e) (before ++ whole_entry e) es rest (longer n at before e es rest long all are) (all ∙ sym (append_assoc before (whole_entry e) (whole_of es rest))) (for_more n e es are))

pub edits_write_keys : PartsAreTheFile → FilesHaveTrees → EntriesHaveFourLeaves → EditsWriteKeys
unfolding with_key tree_of
edits_write_keys parts trees leaves bytes options small =
    let old = options.old_property_key in
    let new = options.new_property_key in
    let es = (properties_of bytes).entries in
    let edits = key_edits old new 0 es in
    let are : AreFor edits old new 0 es = record {
      key = λ k h. key_edited old new 0 es k h;
      others = λ k r h low high. no_edit old new 0 (4 * (0 + k) + r) es (λ n from to e. omega arith);
      end = no_edit old new 0 (4 * (0 + length es)) es (λ n from to e. omega arith);
    } in
    let at_leaves : AreLeafEdits (length (tree_of bytes).leaves) edits = are_leaf_edits old new (length (tree_of bytes).leaves) 0 es (omega (arith, leaves bytes)) in
    leaf_edits_new (tree_of bytes) (trees bytes small) bytes edits at_leaves ∙ leaves_are bytes old new edits 0 0 [] es (properties_of bytes).rest refl (sym (parts bytes)) are
