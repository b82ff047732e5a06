-- A text at the end of a file: the new text with an edit of the last leaf alone.
use Rattle.std.proofs.Common.{◌≡◌, ◌≢◌, ℕ, suc, ◌+◌, ◌*◌, ◌<◌, ◌≤◌, Bool, true, false, ◌||◌, List, [], ◌∷◌, ◌++◌, length, take, get_or, refl, sym, ap, ◌∙◌, append_assoc, append-nil, length-append, drop-cons, take-append-drop, length-take-le, arith}
use Rattle.std.specs.Prelude.{slice_range, Some, None, unwrap_or, if◌then◌else◌}
use Rattle.std.proofs.lemmas.Bool.{ne_eqb, eq-eqb}
use Rattle.std.proofs.lemmas.List.{drop_all}
use Rattle.std.proofs.lemmas.List.Elements.{All-nil, All-cons}
use Rattle.rw_base.specs.Arena.{leaf_at, no_leaf, end_from, end_of, prefix_of, text_of, print_of}
use Rattle.rw_base.specs.Joins.{empty_slice}
use Rattle.rw_base.specs.Laws.{leaf_edits_new, printed, new_text-none}
use Rattle.rw_base.specs.NewText.{leaf_edit, edit_at, leaves_new, new_text, IsText, AreLeafEdits}
use Rattle.rw_base.specs.declared.edit.Edit.{Edit}
use Rattle.rw_base.specs.declared.edit.Item.TheVariants as item
use Rattle.rw_base.specs.declared.edit.Spot.TheVariants as spot
use Rattle.rw_base.specs.declared.tree.Leaf.{Leaf}
use Rattle.rw_base.specs.declared.leaves.TheConstants.{MOST_BYTES}
use Rattle.properties_tree.specs.Entries.{Entry, properties_of, bytes_of}
use Rattle.properties_tree.specs.Laws.{PartsAreTheFile, FilesHaveTrees, EntriesHaveFourLeaves, whole_entry, whole_of}
use Rattle.properties_tree.specs.Layout.{leaves_from, entry_end, tree_of}
use Rattle.conf_recipes.specs.PropertiesRecipes.{text_edit, has_entry, is_unfinished, added_text, adds_of}
use Rattle.conf_recipes.specs.RecipeLaws.{AddedStandsAtTheEnd}

-- ---- where a file's leaves end

pub whole_size : (e : Entry) (at : ℕ) → entry_end at e ≡ at + length (whole_entry e)
whole_size e at = omega (
  arith,
  length-append e.prefix (bytes_of e.key ++ (bytes_of e.separator ++ (bytes_of e.value ++ e.ending))),
  length-append (bytes_of e.key) (bytes_of e.separator ++ (bytes_of e.value ++ e.ending)),
  length-append (bytes_of e.separator) (bytes_of e.value ++ e.ending),
  length-append (bytes_of e.value) e.ending,
)

leaves_end : (es : List Entry) (rest : List ℕ) (x at : ℕ) → end_from x (leaves_from at es rest) ≡ at + length (whole_of es rest)
leaves_end [] rest x at = omega arith
leaves_end (e ∷ es) rest x at =
    leaves_end es rest (at + length e.prefix + length (bytes_of e.key) + 0 + length (bytes_of e.separator) + 0 + length (bytes_of e.value) + 0 + length e.ending) (entry_end at e)
    ∙ omega (arith, whole_size e at, length-append (whole_entry e) (whole_of es rest))

pub tree_ends : PartsAreTheFile → (bytes : List ℕ) → length bytes ≡ end_of (tree_of bytes)
unfolding tree_of
tree_ends parts bytes =
    let whole = whole_of (properties_of bytes).entries (properties_of bytes).rest in
    let from : 0 + length whole ≡ length whole = omega arith in
    sym (leaves_end (properties_of bytes).entries (properties_of bytes).rest 0 0 ∙ (from ∙ ap length (parts bytes)))

-- the last leaf is empty
last_empty : (at : ℕ) (es : List Entry) (rest : List ℕ) → (leaf_at (leaves_from at es rest) (4 * length es)).to ≡ (leaf_at (leaves_from at es rest) (4 * length es)).from
unfolding leaf_at
last_empty at [] rest = omega arith
last_empty at (e ∷ es) rest =
    let four : 4 * suc (length es) ≡ suc (suc (suc (suc (4 * length es)))) = omega arith in
    rw four (last_empty (entry_end at e) es rest)

-- ---- the new text

module _ (bytes : List ℕ) (edits : List Edit) where
  before_last : (i : ℕ) (ks ls : List Leaf) → ((j : ℕ) → j < i + length ks → leaf_edit edits j ≡ None) → leaves_new edits bytes i (ks ++ ls) ≡ print_of bytes ks ++ leaves_new edits bytes (i + length ks) ls
  unfolding leaves_new print_of
  before_last i [] ls none = let same : i ≡ i + 0 = omega arith in ap (λ j. leaves_new edits bytes j ls) same
  before_last i (k ∷ ks) ls none =
      let word = prefix_of bytes k ++ text_of bytes k in
      let next : (i + 1) + length ks ≡ i + suc (length ks) = omega arith in
      ap (λ o. (prefix_of bytes k ++ unwrap_or o (text_of bytes k)) ++ leaves_new edits bytes (i + 1) (ks ++ ls)) (none i (omega arith))
      ∙ (ap (λ w. word ++ w) (before_last (i + 1) ks ls (λ j lt. none j (omega (arith, lt, next)))
      ∙ ap (λ j. print_of bytes ks ++ leaves_new edits bytes j ls) next)
      ∙ sym (append_assoc word (print_of bytes ks) (leaves_new edits bytes (i + suc (length ks)) ls)))

print_append : (bytes : List ℕ) (ks ls : List Leaf) → print_of bytes (ks ++ ls) ≡ print_of bytes ks ++ print_of bytes ls
unfolding print_of
print_append bytes [] ls = refl
print_append bytes (k ∷ ks) ls = ap (λ w. (prefix_of bytes k ++ text_of bytes k) ++ w) (print_append bytes ks ls) ∙ sym (append_assoc (prefix_of bytes k ++ text_of bytes k) (print_of bytes ks) (print_of bytes ls))

-- the leaf of a number is edited, and no other
edited_there : (n : ℕ) (text : List ℕ) → leaf_edit (text_edit n text ∷ []) n ≡ Some text
unfolding leaf_edit edit_at
edited_there n text = rw (eq-eqb n n refl) (ap Some (append-nil text))

edited_only_there : (n j : ℕ) (text : List ℕ) → j < n → leaf_edit (text_edit n text ∷ []) j ≡ None
unfolding leaf_edit edit_at
edited_only_there n j text lt = rw (ne_eqb n j (λ same. omega (arith, same, lt))) refl

are_leaves : (n count : ℕ) (text : List ℕ) → n < count → AreLeafEdits count (text_edit n text ∷ [])
unfolding AreLeafEdits
are_leaves n count text lt = (lt, All-cons IsText (item.Text text) [] tt (All-nil IsText), All-nil (λ (f : Edit). f.spot ≢ spot.Leaf n), tt)

leaves_then : (bytes text : List ℕ) (ls : List Leaf) (n : ℕ) → length ls ≡ n + 1 → (leaf_at ls n).to ≡ (leaf_at ls n).from → leaves_new (text_edit n text ∷ []) bytes 0 ls ≡ print_of bytes ls ++ text
unfolding leaves_new print_of leaf_at
leaves_then bytes text ls n long empty =
    let edits = text_edit n text ∷ [] in
    let l = get_or ls n no_leaf in
    let ks = take n ls in
    let size : length ks ≡ n = length-take-le n ls (omega (arith, long)) in
    let parts : ls ≡ ks ++ l ∷ [] = sym (take-append-drop n ls) ∙ ap (λ ds. ks ++ ds) (drop-cons ls n no_leaf (omega (arith, long)) ∙ ap (λ ds. l ∷ ds) (drop_all (suc n) ls (omega (arith, long)))) in
    let nothing : text_of bytes l ≡ [] = ap (slice_range bytes l.from) empty ∙ empty_slice bytes l.from in
    let new : leaves_new edits bytes (0 + length ks) (l ∷ []) ≡ prefix_of bytes l ++ text = ap (λ j. (prefix_of bytes l ++ unwrap_or (leaf_edit edits j) (text_of bytes l)) ++ []) (omega (arith, size)) ∙ (append-nil (prefix_of bytes l ++ unwrap_or (leaf_edit edits n) (text_of bytes l)) ∙ ap (λ o. prefix_of bytes l ++ unwrap_or o (text_of bytes l)) (edited_there n text)) in
    let old : print_of bytes (l ∷ []) ≡ prefix_of bytes l = append-nil (prefix_of bytes l ++ text_of bytes l) ∙ (ap (λ w. prefix_of bytes l ++ w) nothing ∙ append-nil (prefix_of bytes l)) in
    ap (leaves_new edits bytes 0) parts
    ∙ (before_last bytes edits 0 ks (l ∷ []) (λ j lt. edited_only_there n j text (omega (arith, lt, size)))
    ∙ (ap (λ w. print_of bytes ks ++ w) new
    ∙ (sym (append_assoc (print_of bytes ks) (prefix_of bytes l) text)
    ∙ ap (λ w. w ++ text) (ap (λ w. print_of bytes ks ++ w) (sym old) ∙ (sym (print_append bytes ks (l ∷ [])) ∙ ap (print_of bytes) (sym parts))))))

module _ (parts : PartsAreTheFile) (trees : FilesHaveTrees) (four : EntriesHaveFourLeaves) (bytes : List ℕ) (small : length bytes ≤ MOST_BYTES) where
  behind_all : (text : List ℕ) → new_text (tree_of bytes) bytes (text_edit (4 * length (properties_of bytes).entries) text ∷ []) ≡ bytes ++ text
  unfolding tree_of
  behind_all text =
      let t = tree_of bytes in
      let n = 4 * length (properties_of bytes).entries in
      let tree = trees bytes small in
      leaf_edits_new t tree bytes (text_edit n text ∷ []) (are_leaves n (length t.leaves) text (omega (arith, four bytes)))
      ∙ (leaves_then bytes text t.leaves n (four bytes) (last_empty 0 (properties_of bytes).entries (properties_of bytes).rest)
      ∙ ap (λ w. w ++ text) (printed bytes t tree.tile (tree_ends parts bytes)))

  added_by : (b : Bool) (text : List ℕ) → new_text (tree_of bytes) bytes (if b then [] else text_edit (4 * length (properties_of bytes).entries) text ∷ []) ≡ bytes ++ (if b then [] else text)
  added_by true text = new_text-none (tree_of bytes) bytes (trees bytes small) (tree_ends parts bytes) ∙ sym (append-nil bytes)
  added_by false text = behind_all text

pub added_stands_at_the_end : PartsAreTheFile → FilesHaveTrees → EntriesHaveFourLeaves → AddedStandsAtTheEnd
unfolding adds_of
added_stands_at_the_end parts trees four bytes options small =
    added_by parts trees four bytes small (has_entry options.property (properties_of bytes).entries || is_unfinished bytes) (added_text bytes options)
