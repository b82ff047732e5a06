-- What a crash makes of the files, row by row and as a whole.
use Rattle.std.proofs.Common.{◌≡◌, ℕ, ◌+◌, ◌<◌, Bool, true, false, cond, List, [], ◌∷◌, ◌++◌, length, drop, reverse, get_or, Option, Some, None, refl, sym, ap, ◌∙◌, subst}
use Rattle.std.specs.Prelude.{◌%◌, if◌then◌else◌, IsTrue}
use Rattle.std.specs.Option.{option_or}
use Rattle.std.specs.List.{cons_option}
use Rattle.std.specs.Ordering.{eq_by_cmp}
use Rattle.std.specs.FinMap as finmap
use Rattle.std.specs.FinMap.{find, is_sorted}
use Rattle.std.specs.FinMap.Entries.{below_all}
use Rattle.std.proofs.lemmas.List.{append_assoc, drop_more, get_or-map, length-map}
use Rattle.rw_host.specs.Files.{Files}
use Rattle.memory_stores.specs.declared.undo.Undo.{Undo}
use Rattle.memory_stores.specs.declared.row.FileRow.{FileRow}
use Rattle.memory_stores.specs.States.{States, is_changed_since, now_at, now_of, state_of_write}
use Rattle.memory_stores.specs.Past.{Entries, past_by}
use Rattle.memory_stores.specs.Picked.{chosen, file_picked, last_states, picked, picked_entries, picks_left}
use Rattle.memory_stores.specs.Images.{IsImage}
use Rattle.memory_stores.specs.Memory.{Record, now}
use Rattle.memory_stores.specs.Rows.{entry_of, row_entries, are_in_order, states_of, stored}
use Rattle.memory_stores.specs.Walk.{synced_file}
use Rattle.memory_stores.proofs.Order.{by_bytes, ties_decide}
use Rattle.memory_stores.proofs.Rows.{left, right}
use Rattle.memory_stores.proofs.Maps.{holds, is_true}
use Rattle.memory_stores.proofs.Now.{below_cons, entries_now, file_entries, find_cons, get_now, none_below, or_none, sorted_cons, with_bytes}
use Rattle.memory_stores.proofs.Walked.{both, synced_is}

-- ---- row by row
abbrev pub last_by : List Undo → List FileRow → States
last_by log rows = last_states (past_by log (states_of rows))

-- the rows that are left give these
abbrev pub rest_by : List Undo → List FileRow → ℕ → ℕ → ℕ → Entries
rest_by log rows sync pick i = stored (picked_entries sync (last_by log rows) pick (drop i (row_entries rows)))

drop_row : (rows : List FileRow) (i : ℕ) (row : FileRow) → i < length rows → row ≡ get_or rows i row → drop i (row_entries rows) ≡ entry_of row ∷ drop (i + 1) (row_entries rows)
drop_row rows i row lt is =
    drop_more (row_entries rows) i (entry_of row) (subst (λ n. i < n) (sym (length-map rows entry_of)) lt)
    ∙ ap (λ e. e ∷ drop (i + 1) (row_entries rows)) (get_or-map entry_of rows i row (entry_of row) lt ∙ ap entry_of (sym is))

abbrev with_row : List ℕ → Option (List ℕ) → Entries → Entries
with_row path None es = es
with_row path (Some bytes) es = (path, state_of_write bytes 0) ∷ es

stored_cons : (path : List ℕ) (file : Option (List ℕ)) (files : List (List ℕ × List ℕ)) → stored (cons_option (with_bytes path file) files) ≡ with_row path file (stored files)
stored_cons path None files = refl
stored_cons path (Some bytes) files = refl

-- one row more
rest_more : (log : List Undo) (rows : List FileRow) (sync pick i : ℕ) (row : FileRow) → IsTrue (are_in_order rows) → i < length rows → row ≡ get_or rows i row
    → rest_by log rows sync pick i ≡ with_row row.path (file_picked sync pick (synced_file (reverse log) i row.state.now) row.state) (rest_by log rows sync (picks_left sync pick row.state) (i + 1))
rest_more log rows sync pick i row sorted lt is =
    let last = last_by log rows in
    let behind = picked_entries sync last (picks_left sync pick row.state) (drop (i + 1) (row_entries rows)) in
    ap (λ es. stored (picked_entries sync last pick es)) (drop_row rows i row lt is)
    ∙ (stored_cons row.path (file_picked sync pick (now_at (finmap.get last row.path)) row.state) behind
    ∙ ap (λ file. with_row row.path (file_picked sync pick file row.state) (stored behind)) (sym (synced_is log rows i row sorted lt is)))

module _ (log : List Undo) (rows : List FileRow) (sync pick i : ℕ) (row : FileRow) (sorted : IsTrue (are_in_order rows)) (lt : i < length rows) (is : row ≡ get_or rows i row) where
  abbrev file : Option (List ℕ)
  file = file_picked sync pick (synced_file (reverse log) i row.state.now) row.state

  abbrev rest : Entries
  rest = rest_by log rows sync (picks_left sync pick row.state) (i + 1)

  pub row_passed : (before whole : Entries) → file ≡ None → before ++ rest_by log rows sync pick i ≡ whole → before ++ rest ≡ whole
  row_passed before whole none sofar = sym (ap (λ es. before ++ es) (rest_more log rows sync pick i row sorted lt is ∙ ap (λ o. with_row row.path o rest) none)) ∙ sofar

  pub row_more : (before whole : Entries) (bytes : List ℕ) → file ≡ Some bytes → before ++ rest_by log rows sync pick i ≡ whole → (before ++ (row.path, state_of_write bytes 0) ∷ []) ++ rest ≡ whole
  row_more before whole bytes some sofar =
      append_assoc before ((row.path, state_of_write bytes 0) ∷ []) rest
      ∙ (sym (ap (λ es. before ++ es) (rest_more log rows sync pick i row sorted lt is ∙ ap (λ o. with_row row.path o rest) some)) ∙ sofar)

-- ---- the order
below_picked : (sync : ℕ) (last : States) (pick : ℕ) (x : List ℕ) (es : Entries) → below_all by_bytes x es ≡ true → below_all by_bytes x (picked_entries sync last pick es) ≡ true
below_picked sync last pick x [] below = refl
below_picked sync last pick x (e ∷ es) below =
    let left_picks = picks_left sync pick e.1 in
    below_cons x e.0 (file_picked sync pick (now_at (finmap.get last e.0)) e.1) (picked_entries sync last left_picks es) (left _ _ below) (below_picked sync last left_picks x es (right _ _ below))

pub sorted_picked : (sync : ℕ) (last : States) (pick : ℕ) (es : Entries) → is_sorted by_bytes es ≡ true → is_sorted by_bytes (picked_entries sync last pick es) ≡ true
sorted_picked sync last pick [] sorted = refl
sorted_picked sync last pick (e ∷ es) sorted =
    let left_picks = picks_left sync pick e.1 in
    sorted_cons e.0 (file_picked sync pick (now_at (finmap.get last e.0)) e.1) (picked_entries sync last left_picks es)
    (below_picked sync last left_picks e.0 es (left _ _ sorted)) (sorted_picked sync last left_picks es (right _ _ sorted))

-- ---- a path that is synced
find_picked : (sync : ℕ) (last : States) (pick : ℕ) (q : List ℕ) (es : Entries) → is_sorted by_bytes es ≡ true → is_changed_since sync (find by_bytes q es) ≡ false → find by_bytes q (picked_entries sync last pick es) ≡ now_at (find by_bytes q es)
find_picked sync last pick q [] sorted synced = refl
find_picked sync last pick q (e ∷ es) sorted synced =
    find_cons q e.0 file rest ∙ by_tie (eq_by_cmp by_bytes q e.0) refl synced (find_picked sync last left_picks q es (right _ _ sorted))
  where
    left_picks : ℕ
    left_picks = picks_left sync pick e.1

    file : Option (List ℕ)
    file = file_picked sync pick (now_at (finmap.get last e.0)) e.1

    rest : List (List ℕ × List ℕ)
    rest = picked_entries sync last left_picks es

    by_tie : (b : Bool) → eq_by_cmp by_bytes q e.0 ≡ b → is_changed_since sync (cond b (Some e.1) (find by_bytes q es)) ≡ false
        → (is_changed_since sync (find by_bytes q es) ≡ false → find by_bytes q rest ≡ now_at (find by_bytes q es))
        → cond b (option_or file (find by_bytes q rest)) (find by_bytes q rest) ≡ now_at (cond b (Some e.1) (find by_bytes q es))
    by_tie true tie off goes =
        let below : below_all by_bytes q es ≡ true = subst (λ p. below_all by_bytes p es ≡ true) (sym ((ties_decide q e.0).0 tie)) (left _ _ sorted) in
        ap (option_or file) (none_below q rest (below_picked sync last left_picks q es below))
        ∙ (or_none file ∙ ap (λ b. if b then chosen (pick % 4) (now_at (finmap.get last e.0)) e.1.now else e.1.now) off)
    by_tie false tie off goes = goes off

pub picked_is_image : (pick : ℕ) (s : Record) → IsImage (now s) (picked pick s)
picked_is_image pick s q synced =
    let es = finmap.entries s.states in
    let last = last_states s.past in
    let sorted : is_sorted by_bytes es ≡ true = is_true _ (finmap.entries_sorted s.states) in
    finmap.get-from_sorted by_bytes (picked_entries s.synced last pick es) q (holds _ (sorted_picked s.synced last pick es sorted))
    ∙ (find_picked s.synced last pick q es sorted (subst (λ o. is_changed_since s.synced o ≡ false) (finmap.get-entries s.states q) synced)
    ∙ (ap now_at (sym (finmap.get-entries s.states q)) ∙ sym (get_now s.states q)))

-- ---- files as a new store knows them
file_entries_stored : (files : List (List ℕ × List ℕ)) → file_entries (stored files) ≡ files
file_entries_stored [] = refl
file_entries_stored (file ∷ files) = ap (λ rest. file ∷ rest) (file_entries_stored files)

below_stored : (x : List ℕ) (files : List (List ℕ × List ℕ)) → below_all by_bytes x files ≡ true → below_all by_bytes x (stored files) ≡ true
below_stored x [] below = refl
below_stored x (file ∷ files) below = both _ _ (left _ _ below) (below_stored x files (right _ _ below))

pub sorted_stored : (files : List (List ℕ × List ℕ)) → is_sorted by_bytes files ≡ true → is_sorted by_bytes (stored files) ≡ true
sorted_stored [] sorted = refl
sorted_stored (file ∷ files) sorted = both _ _ (below_stored file.0 files (left _ _ sorted)) (sorted_stored files (right _ _ sorted))

abbrev pub by_files : List (List ℕ × List ℕ) → Files
by_files files = finmap.from_sorted files

abbrev pub by_states : Entries → States
by_states es = finmap.from_sorted es

pub now_stored : (files : List (List ℕ × List ℕ)) → is_sorted by_bytes files ≡ true → now_of (by_states (stored files)) ≡ by_files files
now_stored files sorted = finmap.same_entries_map _ _
    (entries_now (by_states (stored files))
    ∙ (ap file_entries (finmap.entries-from_sorted by_bytes (stored files) (holds _ (sorted_stored files sorted)))
    ∙ (file_entries_stored files ∙ sym (finmap.entries-from_sorted by_bytes files (holds _ sorted)))))
