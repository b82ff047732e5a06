-- The files that a store in memory holds, by what it knows of each path.
use Rattle.std.proofs.Common.{◌≡◌, ℕ, ◌+◌, ◌<◌, ◌≤◌, Bool, true, false, cond, List, [], ◌∷◌, ◌++◌, map, length, take, get_or, append-nil, Option, Some, None, refl, sym, ap, ◌∙◌, subst}
use Rattle.std.specs.Prelude.{IsTrue, nat_lt}
use Rattle.std.proofs.lemmas.List.{take_more, take_all, map-append, length-map}
use Rattle.std.proofs.lemmas.List.Elements.{filter_map-append}
use Rattle.std.specs.Option.{option_map, option_or, is_some}
use Rattle.std.specs.List.{filter_map, cons_option}
use Rattle.std.specs.declared.cmp.Ordering.TheVariants.{Less}
use Rattle.std.specs.Ordering.{is_lt, eq_by_cmp}
use Rattle.std.specs.FinMap as finmap
use Rattle.std.specs.FinMap.{find, is_sorted}
use Rattle.std.specs.FinMap.Entries.{below_all}
use Rattle.std.proofs.lemmas.Bool.{both_ways}
use Rattle.rw_host.specs.Files.{Files}
use Rattle.memory_stores.specs.declared.state.FileState.{FileState}
use Rattle.memory_stores.specs.States.{States, file_entry, now_at, now_of, state_of_write, state_of_failed_write, state_of_late_write, state_of_write_fault, state_of_failed_removal, state_of_removal_fault, state_of_late_removal, state_of_removal, change_state, insert_some}
use Rattle.memory_stores.specs.Table.{GivenFiles, initial_states, entries_of}
use Rattle.memory_stores.proofs.Order.{by_bytes, total, exact, ties_decide}
use Rattle.memory_stores.proofs.Rows.{is_Less, left, right}
use Rattle.memory_stores.specs.declared.row.FileRow.{FileRow}
use Rattle.memory_stores.specs.Rows.{entry_of, row_entries, are_in_order, states_of}
use Rattle.memory_stores.proofs.Maps.{holds, is_true, entries_states}

abbrev pub Entries : Type 0
Entries = List (List ℕ × FileState)

abbrev pub file_entries : Entries → List (List ℕ × List ℕ)
file_entries es = filter_map file_entry es

abbrev pub with_bytes : List ℕ → Option (List ℕ) → Option (List ℕ × List ℕ)
with_bytes path bytes = option_map (λ b. (path, b)) bytes

-- ---- the order
pub below_cons : (x path : List ℕ) (bytes : Option (List ℕ)) (es : List (List ℕ × List ℕ)) → is_lt (by_bytes x path) ≡ true → below_all by_bytes x es ≡ true → below_all by_bytes x (cons_option (with_bytes path bytes) es) ≡ true
below_cons x path None es less below = below
below_cons x path (Some b) es less below = rw less below

below_files : (x : List ℕ) (es : Entries) → below_all by_bytes x es ≡ true → below_all by_bytes x (file_entries es) ≡ true
below_files x [] below = refl
below_files x (e ∷ es) below = below_cons x e.0 e.1.now (file_entries es) (left _ _ below) (below_files x es (right _ _ below))

pub sorted_cons : (path : List ℕ) (bytes : Option (List ℕ)) (es : List (List ℕ × List ℕ)) → below_all by_bytes path es ≡ true → is_sorted by_bytes es ≡ true → is_sorted by_bytes (cons_option (with_bytes path bytes) es) ≡ true
sorted_cons path None es below sorted = sorted
sorted_cons path (Some b) es below sorted = rw below sorted

sorted_files : (es : Entries) → is_sorted by_bytes es ≡ true → is_sorted by_bytes (file_entries es) ≡ true
sorted_files [] sorted = refl
sorted_files (e ∷ es) sorted = sorted_cons e.0 e.1.now (file_entries es) (below_files e.0 es (left _ _ sorted)) (sorted_files es (right _ _ sorted))

-- ---- a look-up
pub none_below : {X : Type 0} (q : List ℕ) (es : List (List ℕ × X)) → below_all by_bytes q es ≡ true → find by_bytes q es ≡ None
none_below q [] below = refl
none_below q (e ∷ es) below =
    let less : by_bytes q e.0 ≡ Less = is_Less (by_bytes q e.0) (left _ _ below) in
    rw less (none_below q es (right _ _ below))

same_either : {X : Type 0} (b : Bool) (x : X) → x ≡ cond b x x
same_either true x = refl
same_either false x = refl

pub find_cons : (q path : List ℕ) (bytes : Option (List ℕ)) (es : List (List ℕ × List ℕ)) → find by_bytes q (cons_option (with_bytes path bytes) es) ≡ cond (eq_by_cmp by_bytes q path) (option_or bytes (find by_bytes q es)) (find by_bytes q es)
find_cons q path None es = same_either (eq_by_cmp by_bytes q path) (find by_bytes q es)
find_cons q path (Some b) es = refl

pub or_none : {X : Type 0} (o : Option X) → option_or o None ≡ o
or_none None = refl
or_none (Some x) = refl

find_files : (q : List ℕ) (es : Entries) → is_sorted by_bytes es ≡ true → find by_bytes q (file_entries es) ≡ now_at (find by_bytes q es)
find_files q [] sorted = refl
find_files q (e ∷ es) sorted =
    find_cons q e.0 e.1.now (file_entries es) ∙ elim (eq_by_cmp by_bytes q e.0) as (λ b. eq_by_cmp by_bytes q e.0 ≡ b → cond b (option_or e.1.now (find by_bytes q (file_entries es))) (find by_bytes q (file_entries es)) ≡ now_at (cond b (Some e.1) (find by_bytes q es))) [
      | true ↦ λ tie.
          let same : q ≡ e.0 = (ties_decide q e.0).0 tie in
          let below : below_all by_bytes q (file_entries es) ≡ true = subst (λ p. below_all by_bytes p (file_entries es) ≡ true) (sym same) (below_files e.0 es (left _ _ sorted)) in
          ap (option_or e.1.now) (none_below q (file_entries es) below) ∙ or_none e.1.now
      | false ↦ λ apart. find_files q es (right _ _ sorted)
    ] refl

-- ---- the map
pub entries_now : (states : States) → finmap.entries (now_of states) ≡ file_entries (finmap.entries states)
unfolding now_of
entries_now states = finmap.entries-from_sorted by_bytes _ (holds _ (sorted_files (finmap.entries states) (is_true _ (finmap.entries_sorted states))))

pub get_now : (states : States) (q : List ℕ) → finmap.get (now_of states) q ≡ now_at (finmap.get states q)
get_now states q =
    finmap.get-entries (now_of states) q
    ∙ ap (find by_bytes q) (entries_now states)
    ∙ find_files q (finmap.entries states) (is_true _ (finmap.entries_sorted states))
    ∙ ap now_at (sym (finmap.get-entries states q))

now_under : (b : Bool) (s : FileState) (o : Option FileState) → now_at (cond b (Some s) o) ≡ cond b s.now (now_at o)
now_under true s o = refl
now_under false s o = refl

none_under : (b : Bool) (o : Option FileState) → now_at (cond b None o) ≡ cond b None (now_at o)
none_under true o = refl
none_under false o = refl

get_now-insert : (states : States) (path : List ℕ) (s : FileState) (q : List ℕ) → finmap.get (now_of (finmap.insert states path s)) q ≡ cond (eq_by_cmp by_bytes q path) s.now (finmap.get (now_of states) q)
get_now-insert states path s q =
    get_now (finmap.insert states path s) q
    ∙ ap now_at (finmap.get-insert total states path s q)
    ∙ now_under (eq_by_cmp by_bytes q path) s (finmap.get states q)
    ∙ ap (cond (eq_by_cmp by_bytes q path) s.now) (sym (get_now states q))

pub now_put : (states : States) (path : List ℕ) (s : FileState) (bytes : List ℕ) → s.now ≡ Some bytes → now_of (finmap.insert states path s) ≡ finmap.insert (now_of states) path bytes
now_put states path s bytes e = finmap.same_map total exact _ _ (λ q.
    get_now-insert states path s q
    ∙ ap (λ o. cond (eq_by_cmp by_bytes q path) o (finmap.get (now_of states) q)) e
    ∙ sym (finmap.get-insert total (now_of states) path bytes q))

pub now_emptied : (states : States) (path : List ℕ) (s : FileState) → s.now ≡ None → now_of (finmap.insert states path s) ≡ finmap.remove (now_of states) path
now_emptied states path s e = finmap.same_map total exact _ _ (λ q.
    get_now-insert states path s q
    ∙ ap (λ o. cond (eq_by_cmp by_bytes q path) o (finmap.get (now_of states) q)) e
    ∙ sym (finmap.get-remove total (now_of states) path q))

pub now_taken : (states : States) (path : List ℕ) → now_of (finmap.remove states path) ≡ finmap.remove (now_of states) path
now_taken states path = finmap.same_map total exact _ _ (λ q.
    get_now (finmap.remove states path) q
    ∙ ap now_at (finmap.get-remove total states path q)
    ∙ none_under (eq_by_cmp by_bytes q path) (finmap.get states q)
    ∙ ap (cond (eq_by_cmp by_bytes q path) None) (sym (get_now states q))
    ∙ sym (finmap.get-remove total (now_of states) path q))

under_same : {X : Type 0} (b : Bool) (x y : X) → (b ≡ true → x ≡ y) → cond b x y ≡ y
under_same true x y e = e refl
under_same false x y e = refl

-- what leaves the path's file leaves all files
pub now_kept : (states : States) (path : List ℕ) (s : FileState) → s.now ≡ now_at (finmap.get states path) → now_of (finmap.insert states path s) ≡ now_of states
now_kept states path s e = finmap.same_map total exact _ _ (λ q.
    get_now-insert states path s q
    ∙ under_same (eq_by_cmp by_bytes q path) s.now (finmap.get (now_of states) q) (λ tie. e ∙ sym (get_now states path) ∙ ap (finmap.get (now_of states)) (sym ((ties_decide q path).0 tie))))

-- ---- what the calls do
touched_now : (o : Option FileState) (call : ℕ) → (state_of_failed_write o call).now ≡ now_at o
touched_now None call = refl
touched_now (Some s) call = refl

pub now_touched : (states : States) (path : List ℕ) (call : ℕ) → now_of (finmap.insert states path (state_of_failed_write (finmap.get states path) call)) ≡ now_of states
now_touched states path call = now_kept states path _ (touched_now (finmap.get states path) call)

touched_by_now : (call stop : ℕ) (o : Option FileState) → (state_of_write_fault call stop o).now ≡ now_at o
touched_by_now call stop o = by_test (nat_lt call stop) o
  where
    by_test : (b : Bool) (o : Option FileState) → (cond b (state_of_failed_write o call) (state_of_late_write o)).now ≡ now_at o
    by_test true None = refl
    by_test false None = refl
    by_test true (Some s) = refl
    by_test false (Some s) = refl

pub now_touched_by : (states : States) (path : List ℕ) (call stop : ℕ) → now_of (finmap.insert states path (state_of_write_fault call stop (finmap.get states path))) ≡ now_of states
now_touched_by states path call stop = now_kept states path _ (touched_by_now call stop (finmap.get states path))

-- a path without a file is removed
absent_removed : (files : Files) (path : List ℕ) → finmap.get files path ≡ None → finmap.remove files path ≡ files
absent_removed files path none = finmap.same_map total exact _ _ (λ q.
    finmap.get-remove total files path q
    ∙ under_same (eq_by_cmp by_bytes q path) None (finmap.get files q) (λ tie. sym none ∙ ap (finmap.get files) (sym ((ties_decide q path).0 tie))))

removed_some : (states : States) (path : List ℕ) (call : ℕ) (o : Option FileState) → finmap.get states path ≡ o → now_of (insert_some states path (option_map (λ s. state_of_removal s call) o)) ≡ finmap.remove (now_of states) path
removed_some states path call None e = sym (absent_removed (now_of states) path (get_now states path ∙ ap now_at e))
removed_some states path call (Some s) e = now_emptied states path (state_of_removal s call) refl

pub now_removed : (states : States) (path : List ℕ) (call : ℕ) → now_of (change_state states path (λ s. state_of_removal s call)) ≡ finmap.remove (now_of states) path
now_removed states path call = removed_some states path call (finmap.get states path) refl

marked_some : (states : States) (path : List ℕ) (call : ℕ) (o : Option FileState) → finmap.get states path ≡ o → now_of (insert_some states path (option_map (λ s. state_of_failed_removal s call) o)) ≡ now_of states
marked_some states path call None e = refl
marked_some states path call (Some s) e = now_kept states path (state_of_failed_removal s call) (sym (ap now_at e))

pub now_marked : (states : States) (path : List ℕ) (call : ℕ) → now_of (change_state states path (λ s. state_of_failed_removal s call)) ≡ now_of states
now_marked states path call = marked_some states path call (finmap.get states path) refl

pub now_marked_by : (states : States) (path : List ℕ) (call stop : ℕ) → now_of (change_state states path (state_of_removal_fault call stop)) ≡ now_of states
now_marked_by states path call stop = by_state (finmap.get states path) refl
  where
    same_now : (s : FileState) (b : Bool) → (cond b (state_of_failed_removal s call) (state_of_late_removal s)).now ≡ s.now
    same_now s true = refl
    same_now s false = refl

    by_state : (o : Option FileState) → finmap.get states path ≡ o → now_of (insert_some states path (option_map (state_of_removal_fault call stop) o)) ≡ now_of states
    by_state None e = refl
    by_state (Some s) e = now_kept states path (state_of_removal_fault call stop s) (same_now s (nat_lt call stop) ∙ sym (ap now_at e))

-- ---- the files that were handed in
now_empty : now_of finmap.empty ≡ finmap.empty
now_empty = finmap.same_map total exact _ _ (λ q. get_now finmap.empty q ∙ ap now_at (finmap.get-empty by_bytes q) ∙ sym (finmap.get-empty by_bytes q))

pub now_given : (files : GivenFiles) → now_of (finmap.from_entries (initial_states files)) ≡ finmap.from_entries (entries_of files)
now_given [] = now_empty
now_given (file ∷ files) =
    now_put (finmap.from_entries (initial_states files)) file.0 (state_of_write file.1.items 0) file.1.items refl
    ∙ ap (λ m. finmap.insert m file.0 file.1.items) (now_given files)

-- ---- a walk over rows
abbrev pub paths_before : List FileRow → ℕ → List (List ℕ)
paths_before rows i = map (λ e. e.0) (file_entries (row_entries (take i rows)))

one_path : (path : List ℕ) (bytes : Option (List ℕ)) → is_some bytes ≡ true → map (λ e. e.0) (cons_option (with_bytes path bytes) []) ≡ path ∷ []
one_path path None e = absurd (both_ways false refl e)
one_path path (Some b) e = refl

no_path : (path : List ℕ) (bytes : Option (List ℕ)) → is_some bytes ≡ false → map (λ e. e.0) (cons_option (with_bytes path bytes) []) ≡ []
no_path path None e = refl
no_path path (Some b) e = absurd (both_ways true e refl)

files_more : (rows : List FileRow) (i : ℕ) (row : FileRow) → i < length rows → row ≡ get_or rows i row → paths_before rows (i + 1) ≡ paths_before rows i ++ map (λ e. e.0) (cons_option (with_bytes row.path row.state.now) [])
files_more rows i row lt is =
    ap (λ some. map (λ e. e.0) (file_entries (row_entries some))) (take_more rows i row lt ∙ ap (λ next. take i rows ++ next ∷ []) (sym is))
    ∙ ap (λ es. map (λ e. e.0) (file_entries es)) (map-append entry_of (take i rows) (row ∷ []))
    ∙ ap (map (λ e. e.0)) (filter_map-append file_entry (row_entries (take i rows)) (entry_of row ∷ []))
    ∙ map-append (λ e. e.0) (file_entries (row_entries (take i rows))) (cons_option (with_bytes row.path row.state.now) [])

pub path_more : (rows : List FileRow) (i : ℕ) (row : FileRow) → i < length rows → row ≡ get_or rows i row → is_some row.state.now ≡ true → paths_before rows (i + 1) ≡ paths_before rows i ++ row.path ∷ []
path_more rows i row lt is some = files_more rows i row lt is ∙ ap (λ more. paths_before rows i ++ more) (one_path row.path row.state.now some)

pub path_passed : (rows : List FileRow) (i : ℕ) (row : FileRow) → i < length rows → row ≡ get_or rows i row → is_some row.state.now ≡ false → paths_before rows (i + 1) ≡ paths_before rows i
path_passed rows i row lt is none = files_more rows i row lt is ∙ ap (λ more. paths_before rows i ++ more) (no_path row.path row.state.now none) ∙ append-nil (paths_before rows i)

pub now_keys : (rows : List FileRow) (n : ℕ) → IsTrue (are_in_order rows) → length rows ≤ n → finmap.keys (now_of (states_of rows)) ≡ paths_before rows n
now_keys rows n sorted all =
    ap (map (λ e. e.0)) (entries_now (states_of rows) ∙ ap file_entries (entries_states rows sorted))
    ∙ ap (λ some. map (λ e. e.0) (file_entries (row_entries some))) (sym (take_all n rows all))

pub len_keys : (files : Files) → length (finmap.keys files) ≡ finmap.len files
len_keys files = length-map (finmap.entries files) _ ∙ sym (finmap.len-entries files)
