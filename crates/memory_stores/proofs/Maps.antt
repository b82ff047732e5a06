-- The map that rows in order make, and what an edit of the rows does to it.
use Rattle.std.proofs.Common.{◌≡◌, ℕ, Bool, true, false, not, cond, List, length, get_or, set, Some, None, refl, sym, ap, ◌∙◌, subst}
use Rattle.std.specs.Option.{option_map}
use Rattle.std.proofs.lemmas.List.{length-map}
use Rattle.std.specs.Prelude.{T, IsTrue}
use Rattle.std.specs.Ordering.{eq_by_cmp, is_eq}
use Rattle.std.specs.Cmp.{alike_right, eq_by_cmp_equiv}
use Rattle.std.specs.FinMap as finmap
use Rattle.std.specs.FinMap.{find, put, is_sorted}
use Rattle.std.specs.FinMap.Entries.{where_key, is_sorted-put, is_sorted-where_key, find-where_key}
use Rattle.memory_stores.specs.declared.state.FileState.{FileState}
use Rattle.memory_stores.specs.declared.row.FileRow.{FileRow}
use Rattle.memory_stores.specs.Rows.{row_entries, are_in_order, states_of, IsPlaceOf, IsGapFor, IsPut, IsTaken, IsChanged}
use Rattle.memory_stores.specs.States.{insert_some}
use Rattle.memory_stores.proofs.Order.{by_bytes, total, exact}
use Rattle.rw_host.specs.Files.{Files, IsInOrder}
use Rattle.memory_stores.proofs.Rows.{differs_from, keys_in_order, put_place, find_place, find_gap}

pub holds : (b : Bool) → b ≡ true → T b
holds b e = subst T (sym e) tt

pub is_true : (b : Bool) → T b → b ≡ true
is_true true h = refl
is_true false h = absurd h

pub entries_states : (rows : List FileRow) → IsTrue (are_in_order rows) → finmap.entries (states_of rows) ≡ row_entries rows
entries_states rows sorted = finmap.entries-from_sorted by_bytes (row_entries rows) (holds _ sorted)

pub states_len : (rows : List FileRow) → IsTrue (are_in_order rows) → finmap.len (states_of rows) ≡ length rows
states_len rows sorted = finmap.len-entries (states_of rows) ∙ ap length (entries_states rows sorted) ∙ length-map rows _

pub states_get : (rows : List FileRow) (path : List ℕ) → IsTrue (are_in_order rows) → finmap.get (states_of rows) path ≡ find by_bytes path (row_entries rows)
states_get rows path sorted = finmap.get-from_sorted by_bytes (row_entries rows) path (holds _ sorted)

pub is_put : (rows : List FileRow) (path : List ℕ) (state : FileState) (new : List FileRow) → IsTrue (are_in_order rows) → put by_bytes path state (row_entries rows) ≡ row_entries new → IsPut rows path state new
is_put rows path state new sorted e =
    let rises : T (are_in_order new) = subst (λ es. T (is_sorted by_bytes es)) e (is_sorted-put by_bytes total path state (row_entries rows) (holds _ sorted)) in
    let now : IsTrue (are_in_order new) = is_true _ rises in
    record {
      sorted = now;
      states = finmap.same_entries_map _ _ (entries_states new now ∙ sym e ∙ ap (put by_bytes path state) (sym (entries_states rows sorted)) ∙ sym (finmap.entries-insert total (states_of rows) path state));
    }

turned : {X : Type 0} (b : Bool) (x y : X) → cond (not b) x y ≡ cond b y x
turned true x y = refl
turned false x y = refl

pub is_taken : (rows : List FileRow) (path : List ℕ) (new : List FileRow) → IsTrue (are_in_order rows) → where_key by_bytes (differs_from path) (row_entries rows) ≡ row_entries new → IsTaken rows path new
is_taken rows path new sorted e =
    let rises : T (are_in_order new) = subst (λ es. T (is_sorted by_bytes es)) e (is_sorted-where_key by_bytes (differs_from path) (row_entries rows) (holds _ sorted)) in
    let now : IsTrue (are_in_order new) = is_true _ rises in
    let found = λ (q : List ℕ).
    states_get new q now
    ∙ ap (find by_bytes q) (sym e)
    ∙ find-where_key by_bytes (differs_from path) q (λ x t. ap (λ r. not (is_eq r)) (sym (alike_right total q x path t))) (row_entries rows)
    ∙ turned (eq_by_cmp by_bytes path q) _ _
    ∙ ap (λ b. cond b None (find by_bytes q (row_entries rows))) ((eq_by_cmp_equiv total).symm path q)
    ∙ ap (cond (eq_by_cmp by_bytes q path) None) (sym (states_get rows q sorted))
    ∙ sym (finmap.get-remove total (states_of rows) path q) in
    record { sorted = now; states = finmap.same_map total exact _ _ found }

-- ---- what is said of a path
pub state_place : (rows : List FileRow) (path : List ℕ) (i : ℕ) (row : FileRow) → IsTrue (are_in_order rows) → IsPlaceOf rows path i → row ≡ get_or rows i row → finmap.get (states_of rows) path ≡ Some row.state
state_place rows path i row sorted at is = states_get rows path sorted ∙ find_place rows path i row sorted at ∙ ap (λ r. Some r.state) (sym is)

pub state_gap : (rows : List FileRow) (path : List ℕ) (i : ℕ) → IsTrue (are_in_order rows) → IsGapFor rows path i → finmap.get (states_of rows) path ≡ None
state_gap rows path i sorted gap = states_get rows path sorted ∙ find_gap rows path i gap

-- the row at the path's place says something else
pub is_put_place : (rows : List FileRow) (path : List ℕ) (i : ℕ) (row : FileRow) (state : FileState) → IsTrue (are_in_order rows) → IsPlaceOf rows path i → row ≡ get_or rows i row → IsPut rows path state (set rows i (record { path = row.path; state = state }))
is_put_place rows path i row state sorted at is =
    let new : FileRow = record { path = row.path; state = state } in
    let same : row.path ≡ path = ap (λ r. r.path) is ∙ at.has_path row in
    let here : IsPlaceOf rows row.path i = subst (λ p. IsPlaceOf rows p i) (sym same) at in
    subst (λ p. IsPut rows p state (set rows i new)) same (is_put rows row.path state (set rows i new) sorted (put_place rows new i sorted here))

pub is_changed_place : (rows : List FileRow) (path : List ℕ) (i : ℕ) (row : FileRow) (change : FileState → FileState) → IsTrue (are_in_order rows) → IsPlaceOf rows path i → row ≡ get_or rows i row
    → IsChanged rows path change (set rows i (record { path = row.path; state = change row.state }))
is_changed_place rows path i row change sorted at is =
    let put = is_put_place rows path i row (change row.state) sorted at is in
    record { sorted = put.sorted; states = put.states ∙ ap (λ o. insert_some (states_of rows) path (option_map change o)) (sym (state_place rows path i row sorted at is)) }

pub is_changed_gap : (rows : List FileRow) (path : List ℕ) (i : ℕ) (change : FileState → FileState) → IsTrue (are_in_order rows) → IsGapFor rows path i → IsChanged rows path change rows
is_changed_gap rows path i change sorted gap = record { sorted = sorted; states = ap (λ o. insert_some (states_of rows) path (option_map change o)) (sym (state_gap rows path i sorted gap)) }

pub keys_rise : (files : Files) → IsInOrder (finmap.keys files)
keys_rise files = keys_in_order (finmap.entries files) (is_true _ (finmap.entries_sorted files))
