-- Going back over what the calls of a store in memory did.
use Rattle.std.proofs.Common.{◌≡◌, ℕ, zero, suc, ◌<◌, ◌≤◌, Bool, true, false, cond, List, [], ◌∷◌, map, length, get_or, set, Option, Some, None, refl, sym, ap, ◌∙◌, subst, arith}
use Rattle.std.specs.List.{insert, remove}
use Rattle.std.specs.Ordering.{eq_by_cmp}
use Rattle.std.specs.FinMap as finmap
use Rattle.std.specs.FinMap.{find, is_sorted}
use Rattle.std.specs.Prelude.{IsTrue, IfSome}
use Rattle.std.proofs.lemmas.List.{map-set, set-set, set-get_or, get_or-set_same, length-map}
use Rattle.std.proofs.lemmas.Simd.{map-map}
use Rattle.memory_stores.specs.declared.state.FileState.{FileState}
use Rattle.memory_stores.specs.declared.undo.Undo.{Undo}
use Rattle.memory_stores.specs.declared.undo.Undo.TheVariants.{Changed, Marked, Inserted}
use Rattle.memory_stores.specs.declared.row.FileRow.{FileRow}
use Rattle.memory_stores.specs.States.{States}
use Rattle.memory_stores.specs.Rows.{entry_of, row_entries, are_in_order, states_of, RowsGoBack}
use Rattle.memory_stores.specs.Past.{IsEarly, Entries, GoesBack, StatesGoBack, early, early_entry, early_entries, no_entry, with_changed, past_of, with_undo}
use Rattle.memory_stores.proofs.Order.{by_bytes, ties_decide}
use Rattle.memory_stores.proofs.Rows.{left, right}
use Rattle.memory_stores.proofs.Maps.{entries_states, is_true}
use Rattle.memory_stores.proofs.Now.{none_below}

-- ---- by rows
abbrev early_row : FileRow → List ℕ × FileState
early_row row = early_entry (entry_of row)

by_rows : (rows : List FileRow) → early_entries (row_entries rows) ≡ map early_row rows
by_rows rows = map-map early_entry entry_of rows

back : (undo : Option Undo) (old new : List FileRow) → ((undos : List Undo) → past_of (with_undo undo undos) (map early_row new) ≡ past_of undos (map early_row old)) → RowsGoBack undo old new
back undo old new goes undos = ap (past_of (with_undo undo undos)) (by_rows new) ∙ (goes undos ∙ sym (ap (past_of undos) (by_rows old)))

-- an entry is put back at its place
put_back : (rows : List FileRow) (i : ℕ) (row new : FileRow) (change : List ℕ × FileState → List ℕ × FileState) → i < length rows → row ≡ get_or rows i row → change (early_row new) ≡ early_row row
    → set (map early_row (set rows i new)) i (change (get_or (map early_row (set rows i new)) i no_entry)) ≡ map early_row rows
put_back rows i row new change lt is back =
    ap (λ es. set es i (change (get_or es i no_entry))) (map-set early_row rows i new)
    ∙ (ap (λ e. set (set (map early_row rows) i (early_row new)) i (change e)) (get_or-set_same (map early_row rows) i (early_row new) no_entry (omega (arith, length-map rows early_row)))
    ∙ (set-set (map early_row rows) i (early_row new) (change (early_row new))
    ∙ (ap (set (map early_row rows) i) back
    ∙ (sym (map-set early_row rows i row)
    ∙ ap (map early_row) (ap (set rows i) is ∙ set-get_or rows i row)))))

pub changed_back : (rows : List FileRow) (i : ℕ) (row : FileRow) (state : FileState) → i < length rows → row ≡ get_or rows i row → RowsGoBack (Some (Changed i row.state)) rows (set rows i (record { path = row.path; state = state }))
changed_back rows i row state lt is =
    let new : FileRow = record { path = row.path; state = state } in
    back (Some (Changed i row.state)) rows (set rows i new) (λ undos. ap (past_of undos) (put_back rows i row new (λ e. (e.0, early row.state)) lt is refl))

pub marked_back : (rows : List FileRow) (i : ℕ) (row : FileRow) (state : FileState) → i < length rows → row ≡ get_or rows i row → with_changed row.state.changed (early state) ≡ early row.state
    → RowsGoBack (Some (Marked i row.state.changed)) rows (set rows i (record { path = row.path; state = state }))
marked_back rows i row state lt is same =
    let new : FileRow = record { path = row.path; state = state } in
    let old = row.state.changed in
    back (Some (Marked i old)) rows (set rows i new) (λ undos. ap (past_of undos) (put_back rows i row new (λ e. (e.0, with_changed old e.1)) lt is (ap (λ s. (row.path, s)) same)))

-- what the calls from the stop on do leaves the entries
pub late_back : (rows : List FileRow) (i : ℕ) (row : FileRow) (state : FileState) → row ≡ get_or rows i row → early state ≡ early row.state → RowsGoBack None rows (set rows i (record { path = row.path; state = state }))
late_back rows i row state is same =
    let new : FileRow = record { path = row.path; state = state } in
    back None rows (set rows i new) (λ undos. ap (past_of undos)
    (map-set early_row rows i new
    ∙ (ap (λ s. set (map early_row rows) i (row.path, s)) same
    ∙ (sym (map-set early_row rows i row) ∙ ap (map early_row) (ap (set rows i) is ∙ set-get_or rows i row)))))

taken_out : (rows : List FileRow) (i : ℕ) (new : FileRow) → i ≤ length rows → remove (map early_row (insert rows i new)) i ≡ map early_row rows
taken_out rows zero new le = refl
taken_out [] (suc i) new le = absurd (omega (arith, le))
taken_out (row ∷ rows) (suc i) new le = ap (λ es. early_row row ∷ es) (taken_out rows i new (omega (arith, le)))

pub inserted_back : (rows : List FileRow) (i : ℕ) (new : FileRow) → i ≤ length rows → RowsGoBack (Some (Inserted i)) rows (insert rows i new)
inserted_back rows i new le = back (Some (Inserted i)) rows (insert rows i new) (λ undos. ap (past_of undos) (taken_out rows i new le))

-- ---- by states
pub states_back : (undo : Option Undo) (old new : List FileRow) → IsTrue (are_in_order old) → IsTrue (are_in_order new) → RowsGoBack undo old new → StatesGoBack undo (states_of old) (states_of new)
states_back undo old new old_sorted new_sorted goes =
    subst (λ es. GoesBack undo es (finmap.entries (states_of new))) (sym (entries_states old old_sorted))
    (subst (GoesBack undo (row_entries old)) (sym (entries_states new new_sorted)) goes)

-- where no call from the stop on has come, the entries are the states'
is_early : (s : FileState) → s.late ≡ false → early s ≡ s
is_early s e = ap (λ b. record { now = s.now; was_held = s.was_held; changed = s.changed; late = b }) (sym e)

abbrev EarlyAt : Entries → List ℕ → Type 0
EarlyAt es q = IfSome (find by_bytes q es) (λ s. s.late ≡ false)

none_late : (es : Entries) → is_sorted by_bytes es ≡ true → ((q : List ℕ) → EarlyAt es q) → early_entries es ≡ es
none_late [] sorted all = refl
none_late (e ∷ es) sorted all = ap (λ s. (e.0, s) ∷ early_entries es) (is_early e.1 here) ∙ ap (λ es. e ∷ es) (none_late es (right _ _ sorted) rest)
  where
    here : e.1.late ≡ false
    here = subst (λ o. IfSome o (λ s. s.late ≡ false)) (ap (λ b. cond b (Some e.1) (find by_bytes e.0 es)) ((ties_decide e.0 e.0).1 refl)) (all e.0)

    by_tie : (q : List ℕ) (b : Bool) → eq_by_cmp by_bytes q e.0 ≡ b → EarlyAt es q
    by_tie q true tie = subst (λ o. IfSome o (λ s. s.late ≡ false)) (sym (ap (λ p. find by_bytes p es) ((ties_decide q e.0).0 tie) ∙ none_below e.0 es (left _ _ sorted))) tt
    by_tie q false apart = subst (λ o. IfSome o (λ s. s.late ≡ false)) (ap (λ b. cond b (Some e.1) (find by_bytes q es)) apart) (all q)

    rest : (q : List ℕ) → EarlyAt es q
    rest q = by_tie q (eq_by_cmp by_bytes q e.0) refl

pub early_states : (states : States) → IsEarly states → finmap.from_sorted (early_entries (finmap.entries states)) ≡ states
early_states states all =
    let es = finmap.entries states in
    let sorted = finmap.entries_sorted states in
    let same = none_late es (is_true _ sorted) (λ q. subst (λ o. IfSome o (λ s. s.late ≡ false)) (finmap.get-entries states q) (all q)) in
    ap finmap.from_sorted same ∙ finmap.same_entries_map _ _ (finmap.entries-from_sorted by_bytes es sorted)
