-- The new text of a file from which entries go.
use Rattle.std.proofs.Common.{◌≡◌, ◌≢◌, ℕ, zero, suc, ◌+◌, ◌*◌, ◌-◌, ◌<◌, ◌≤◌, Bool, true, false, List, [], ◌∷◌, ◌++◌, length, take, drop, get_or, refl, sym, ap, subst, ◌∙◌, append_assoc, append-nil, length-append, arith, inl, inr}
use Rattle.std.specs.Prelude.{slice_range, option_map, Option, Some, None, if◌then◌else◌}
use Rattle.std.specs.Str.{bytes_eq}
use Rattle.std.proofs.lemmas.Bool.{cases_Bool, ne_eqb, eq-eqb}
use Rattle.std.proofs.lemmas.List.{take_at, drop_at, take_all}
use Rattle.rw_base.specs.Arena.{Arena, PartsHold, row_at, end_from}
use Rattle.rw_base.specs.EditLaws.{new_parts, new_items, same_leaf, same_node}
use Rattle.rw_base.specs.Gaps.{start_of, range_of}
use Rattle.rw_base.specs.NewText.{AreEdits, edit_at, node_edit, leaf_edit, items_text, join_parts, leaf_new, node_new, new_text}
use Rattle.rw_base.specs.Starts.{leaf_range, start_last}
use Rattle.rw_base.specs.declared.edit.Edit.{Edit}
use Rattle.rw_base.specs.declared.edit.Item.{Item}
use Rattle.rw_base.specs.declared.edit.Item.TheVariants as item
use Rattle.rw_base.specs.declared.edit.Spot.TheVariants as spot
use Rattle.rw_base.specs.declared.leaves.TheConstants.{MOST_BYTES}
use Rattle.rw_base.specs.declared.tree.NodeRow.{NodeRow}
use Rattle.rw_base.specs.declared.tree.Part.TheVariants as part
use Rattle.properties_tree.specs.Decoding.{key_text}
use Rattle.properties_tree.specs.Entries.{Entry, properties_of, no_entry, bytes_of}
use Rattle.properties_tree.specs.Laws.{PartsAreTheFile, FilesHaveTrees, EntriesHaveFourLeaves, whole_entry, whole_of}
use Rattle.properties_tree.specs.Layout.{leaves_from, entry_end, entry_row, entry_rows, entry_parts, file_row, tree_of}
use Rattle.conf_recipes.specs.PropertiesRecipes.{through_last_end, deletes}
use Rattle.conf_recipes.specs.RecipeLaws.{piece_left, without, DeletesLeaveTheRest}
use Rattle.conf_recipes.proofs.AtTheEnd.{whole_size, tree_ends}
use Rattle.conf_recipes.proofs.Deleted.{deletes_fit}

part_at : (bytes a b c : List ℕ) (from to : ℕ) → bytes ≡ a ++ (b ++ c) → length a ≡ from → from + length b ≡ to → slice_range bytes from to ≡ b
part_at bytes a b c from to all front back =
    let size : to - from ≡ length b = omega arith in
    rw (size, all) (rw (drop_at a (b ++ c) from front) (take_at b c (length b) refl))

-- ---- which edit is at a node

module _ (goes : List ℕ → Bool) where
  abbrev pub gone : Entry → Option (List Item)
  gone e = if goes (key_text e) then Some (item.Text (through_last_end e.prefix) ∷ []) else None

  none_at : (n j : ℕ) (es : List Entry) → ((k : ℕ) → n ≤ k → k < n + length es → k ≢ j) → node_edit (deletes goes n es) j ≡ None
  unfolding deletes edit_at
  none_at n j [] other = refl
  none_at n j (e ∷ es) other =
      let more = none_at (n + 1) j es (λ k low high. other k (omega (arith, low)) (omega (arith, high))) in
      elim (cases_Bool (goes (key_text e))) [
        | inl yields ↦ rw yields (rw (ne_eqb n j (other n (omega arith) (omega arith))) more)
        | inr stays ↦ rw stays more
      ]

  node_at : (n k : ℕ) (es : List Entry) → k < length es → node_edit (deletes goes n es) (n + k) ≡ gone (get_or es k no_entry)
  unfolding deletes edit_at
  node_at n k [] lt = absurd (omega (arith, lt))
  node_at n zero (e ∷ es) lt =
      let here : n ≡ n + 0 = omega arith in
      elim (cases_Bool (goes (key_text e))) [
        | inl yields ↦ rw yields (rw (eq-eqb n (n + 0) here) refl)
        | inr stays ↦ rw stays (none_at (n + 1) (n + 0) es (λ j low high same. omega (arith, low, same)))
      ]
  node_at n (suc k) (e ∷ es) lt =
      let next : (n + 1) + k ≡ n + suc k = omega arith in
      let more : node_edit (deletes goes (n + 1) es) (n + suc k) ≡ gone (get_or es k no_entry) = ap (node_edit (deletes goes (n + 1) es)) (sym next) ∙ node_at (n + 1) k es (omega (arith, lt)) in
      elim (cases_Bool (goes (key_text e))) [
        | inl yields ↦ rw yields (rw (ne_eqb n (n + suc k) (λ same. omega (arith, same))) more)
        | inr stays ↦ rw stays more
      ]

  nothing_at_leaf : (n j : ℕ) (es : List Entry) → edit_at (deletes goes n es) (spot.Leaf j) ≡ None
  unfolding deletes edit_at
  nothing_at_leaf n j [] = refl
  nothing_at_leaf n j (e ∷ es) = elim (cases_Bool (goes (key_text e))) [
    | inl yields ↦ rw yields (nothing_at_leaf (n + 1) j es)
    | inr stays ↦ rw stays (nothing_at_leaf (n + 1) j es)
  ]

  no_leaf_edit : (n j : ℕ) (es : List Entry) → leaf_edit (deletes goes n es) j ≡ None
  unfolding leaf_edit
  no_leaf_edit n j es = ap (option_map items_text) (nothing_at_leaf n j es)

-- ---- the rows of a file

row_of : (n : ℕ) (es : List Entry) (more : List NodeRow) (k : ℕ) → k < length es → row_at (entry_rows n es ++ more) k ≡ entry_row (4 * (n + k))
unfolding row_at
row_of n [] more k lt = absurd (omega (arith, lt))
row_of n (e ∷ es) more zero lt = let same : 4 * n ≡ 4 * (n + 0) = omega arith in ap entry_row same
row_of n (e ∷ es) more (suc k) lt = let next : 4 * ((n + 1) + k) ≡ 4 * (n + suc k) = omega arith in row_of (n + 1) es more k (omega (arith, lt)) ∙ ap entry_row next

last_row : (n : ℕ) (es : List Entry) (r : NodeRow) → row_at (entry_rows n es ++ r ∷ []) (length es) ≡ r
unfolding row_at
last_row n [] r = refl
last_row n (e ∷ es) r = last_row (n + 1) es r

length_rows : (n : ℕ) (es : List Entry) → length (entry_rows n es) ≡ length es
length_rows n [] = refl
length_rows n (e ∷ es) = ap suc (length_rows (n + 1) es)

-- ---- where entries begin

starts : (es : List Entry) (rest : List ℕ) (k x at : ℕ) → x ≡ at → k ≤ length es → end_from x (take (4 * k) (leaves_from at es rest)) ≡ at + length (whole_of (take k es) [])
starts es rest zero x at same le = omega (arith, same)
starts [] rest (suc k) x at same le = absurd (omega (arith, le))
starts (e ∷ es) rest (suc k) x at same le =
    let four : 4 * suc k ≡ suc (suc (suc (suc (4 * k)))) = omega arith in
    rw four (
    starts es rest k (at + length e.prefix + length (bytes_of e.key) + 0 + length (bytes_of e.separator) + 0 + length (bytes_of e.value) + 0 + length e.ending) (entry_end at e) (omega arith) (omega (arith, le))
    ∙ omega (arith, whole_size e at, length-append (whole_entry e) (whole_of (take k es) []))
    )

whole_cut : (es : List Entry) (rest : List ℕ) (k : ℕ) → k < length es → whole_of es rest ≡ whole_of (take k es) [] ++ (whole_entry (get_or es k no_entry) ++ whole_of (drop (suc k) es) rest)
whole_cut [] rest k lt = absurd (omega (arith, lt))
whole_cut (e ∷ es) rest zero lt = refl
whole_cut (e ∷ es) rest (suc k) lt =
    ap (λ w. whole_entry e ++ w) (whole_cut es rest k (omega (arith, lt)))
    ∙ sym (append_assoc (whole_entry e) (whole_of (take k es) []) (whole_entry (get_or es k no_entry) ++ whole_of (drop (suc k) es) rest))

whole_more : (es : List Entry) (k : ℕ) → k < length es → length (whole_of (take (suc k) es) []) ≡ length (whole_of (take k es) []) + length (whole_entry (get_or es k no_entry))
whole_more [] k lt = absurd (omega (arith, lt))
whole_more (e ∷ es) zero lt = omega (arith, length-append (whole_entry e) [])
whole_more (e ∷ es) (suc k) lt = omega (arith, length-append (whole_entry e) (whole_of (take (suc k) es) []), length-append (whole_entry e) (whole_of (take k es) []), whole_more es k (omega (arith, lt)))

whole_rest : (es : List Entry) (rest : List ℕ) → whole_of es rest ≡ whole_of es [] ++ rest
whole_rest [] rest = refl
whole_rest (e ∷ es) rest = ap (λ w. whole_entry e ++ w) (whole_rest es rest) ∙ sym (append_assoc (whole_entry e) (whole_of es []) rest)

-- ---- the parts joined

joined_parts : (goes : List ℕ → Bool) (leaf node : ℕ → List ℕ) (i n : ℕ) (es : List Entry) (rest : List ℕ) → leaf i ≡ rest → ((k : ℕ) → k < length es → node (n + k) ≡ piece_left goes (get_or es k no_entry))
    → join_parts leaf node (entry_parts n es ++ part.Leaf i ∷ []) ≡ without goes es rest
joined_parts goes leaf node i n [] rest end each = append-nil (leaf i) ∙ end
joined_parts goes leaf node i n (e ∷ es) rest end each =
    let here : n ≡ n + 0 = omega arith in
    ap (λ w. w ++ join_parts leaf node (entry_parts (n + 1) es ++ part.Leaf i ∷ [])) (ap node here ∙ each 0 (omega arith))
    ∙ ap (λ w. piece_left goes e ++ w) (joined_parts goes leaf node i (n + 1) es rest end (λ k lt. let next : (n + 1) + k ≡ n + suc k = omega arith in ap node next ∙ each (suc k) (omega (arith, lt))))

-- ---- the new text

module _ (parts : PartsAreTheFile) (trees : FilesHaveTrees) (four : EntriesHaveFourLeaves) (bytes : List ℕ) (small : length bytes ≤ MOST_BYTES) (goes : List ℕ → Bool) where
  abbrev es : List Entry
  es = (properties_of bytes).entries

  abbrev rest : List ℕ
  rest = (properties_of bytes).rest

  abbrev t : Arena
  t = tree_of bytes

  abbrev edits : List Edit
  edits = deletes goes 0 es

  fit : AreEdits t edits
  fit = deletes_fit goes t bytes edits refl refl

  nodes : length t.nodes ≡ length es + 1
  unfolding tree_of
  nodes = length-append (entry_rows 0 es) (file_row es ∷ []) ∙ omega (arith, length_rows 0 es)

  row : (k : ℕ) → k < length es → row_at t.nodes k ≡ entry_row (4 * k)
  unfolding tree_of
  row k lt = row_of 0 es (file_row es ∷ []) k lt ∙ (let same : 4 * (0 + k) ≡ 4 * k = omega arith in ap entry_row same)

  start : (k : ℕ) → k ≤ length es → start_of t.leaves (4 * k) ≡ length (whole_of (take k es) [])
  unfolding tree_of
  start k le =
      let from : 0 + length (whole_of (take k es) []) ≡ length (whole_of (take k es) []) = omega arith in
      starts es rest k 0 0 refl le ∙ from

  entry_range : (k : ℕ) → k < length es → range_of t bytes k ≡ whole_entry (get_or es k no_entry)
  entry_range k lt =
      let e = get_or es k no_entry in
      let next : 4 * k + 4 ≡ 4 * (k + 1) = omega arith in
      let more : k + 1 ≡ suc k = omega arith in
      let to : start_of t.leaves (4 * k + 4) ≡ length (whole_of (take k es) []) + length (whole_entry e) = ap (start_of t.leaves) next ∙ (start (k + 1) (omega (arith, lt)) ∙ (ap (λ j. length (whole_of (take j es) [])) more ∙ whole_more es k lt)) in
      ap (λ (r : NodeRow). slice_range bytes (start_of t.leaves r.first) (start_of t.leaves r.past)) (row k lt)
      ∙ part_at bytes (whole_of (take k es) []) (whole_entry e) (whole_of (drop (suc k) es) rest) (start_of t.leaves (4 * k)) (start_of t.leaves (4 * k + 4))
      (sym (parts bytes) ∙ whole_cut es rest k lt) (sym (start k (omega (arith, lt)))) (omega (arith, to, start k (omega (arith, lt))))

  kept_leaf : (i : ℕ) → i < length t.leaves → leaf_new t bytes edits i ≡ leaf_range t.leaves bytes i (i + 1)
  kept_leaf i lt = same_leaf t (trees bytes small) bytes edits fit i lt (no_leaf_edit goes 0 i es)

  kept_entry : (k : ℕ) → k < length es → goes (key_text (get_or es k no_entry)) ≡ false → node_new t bytes edits k ≡ whole_entry (get_or es k no_entry)
  kept_entry k lt stays =
      let e = get_or es k no_entry in
      let here : 0 + k ≡ k = omega arith in
      let none : node_edit edits k ≡ None = ap (node_edit edits) (sym here) ∙ (node_at goes 0 k es lt ∙ rw stays refl) in
      let holds = λ (i : ℕ). leaf_new t bytes edits i ≡ leaf_range t.leaves bytes i (i + 1) in
      same_node t (trees bytes small) bytes edits fit k (omega (arith, lt, nodes)) none
      (subst (λ (r : NodeRow). PartsHold holds (λ m. node_new t bytes edits m ≡ range_of t bytes m) r.parts) (sym (row k lt)) (
        kept_leaf (4 * k) (omega (arith, lt, four bytes)),
        (
          kept_leaf (4 * k + 1) (omega (arith, lt, four bytes)),
          (
            kept_leaf (4 * k + 2) (omega (arith, lt, four bytes)),
            (kept_leaf (4 * k + 3) (omega (arith, lt, four bytes)), tt),
          ),
        ),
      ))
      ∙ entry_range k lt

  gone_entry : (k : ℕ) → k < length es → goes (key_text (get_or es k no_entry)) ≡ true → node_new t bytes edits k ≡ through_last_end (get_or es k no_entry).prefix
  gone_entry k lt yields =
      let e = get_or es k no_entry in
      let here : 0 + k ≡ k = omega arith in
      let some : node_edit edits k ≡ Some (item.Text (through_last_end e.prefix) ∷ []) = ap (node_edit edits) (sym here) ∙ (node_at goes 0 k es lt ∙ rw yields refl) in
      new_items t (trees bytes small) bytes edits fit k (item.Text (through_last_end e.prefix) ∷ []) (omega (arith, lt, nodes)) some ∙ append-nil (through_last_end e.prefix)

  each_entry : (k : ℕ) → k < length es → node_new t bytes edits (0 + k) ≡ piece_left goes (get_or es k no_entry)
  each_entry k lt =
      let here : 0 + k ≡ k = omega arith in
      ap (node_new t bytes edits) here ∙ elim (cases_Bool (goes (key_text (get_or es k no_entry)))) [
        | inl yields ↦ gone_entry k lt yields ∙ rw yields refl
        | inr stays ↦ kept_entry k lt stays ∙ rw stays refl
      ]

  end_kept : leaf_new t bytes edits (4 * length es) ≡ rest
  end_kept =
      let n = length es in
      let all : take n es ≡ es = take_all n es (omega arith) in
      let from : start_of t.leaves (4 * n) ≡ length (whole_of es []) = start n (omega arith) ∙ ap (λ xs. length (whole_of xs [])) all in
      let to : start_of t.leaves (4 * n + 1) ≡ length bytes = start_last t.leaves (4 * n + 1) (omega (arith, four bytes)) ∙ sym (tree_ends parts bytes) in
      let whole : bytes ≡ whole_of es [] ++ (rest ++ []) = sym (parts bytes) ∙ (whole_rest es rest ∙ ap (λ w. whole_of es [] ++ w) (sym (append-nil rest))) in
      kept_leaf (4 * n) (omega (arith, four bytes))
      ∙ part_at bytes (whole_of es []) rest [] (start_of t.leaves (4 * n)) (start_of t.leaves (4 * n + 1)) whole (sym from)
      (omega (arith, from, to, ap length whole, length-append (whole_of es []) (rest ++ []), length-append rest []))

  root_kept : node_edit edits (length es) ≡ None
  root_kept = none_at goes 0 (length es) es (λ k low high same. omega (arith, high, same))

  pub deletes_leave : new_text t bytes edits ≡ without goes es rest
  unfolding new_text tree_of
  deletes_leave =
      new_parts t (trees bytes small) bytes edits fit (length es) (omega (arith, nodes)) root_kept
      ∙ (ap (λ (r : NodeRow). join_parts (leaf_new t bytes edits) (node_new t bytes edits) r.parts) (last_row 0 es (file_row es))
      ∙ joined_parts goes (leaf_new t bytes edits) (node_new t bytes edits) (4 * length es) 0 es rest end_kept each_entry)

pub deletes_leave_the_rest : PartsAreTheFile → FilesHaveTrees → EntriesHaveFourLeaves → DeletesLeaveTheRest
deletes_leave_the_rest parts trees four bytes options small = deletes_leave parts trees four bytes small (λ key. bytes_eq key options.property_key)
