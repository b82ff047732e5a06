-- The file that a row had at the last sync, by the walk back over the log.
use Rattle.std.proofs.Common.{◌≡◌, ℕ, zero, suc, ◌+◌, ◌-◌, ◌<◌, Bool, true, false, cond, List, [], ◌∷◌, length, reverse, get_or, set, Option, Some, None, refl, sym, ap, ◌∙◌, subst, arith}
use Rattle.std.specs.Prelude.{◌≢◌, ◌==◌, ◌&&◌, nat_lt, if◌then◌else◌, IsTrue}
use Rattle.std.specs.List.{remove}
use Rattle.std.specs.declared.cmp.Ordering.TheVariants.{Less}
use Rattle.std.specs.Ordering.{is_eq, eq_by_cmp}
use Rattle.std.specs.FinMap as finmap
use Rattle.std.specs.FinMap.{find, is_sorted}
use Rattle.std.specs.FinMap.Entries.{below_all}
use Rattle.std.specs.Option.{is_some}
use Rattle.std.proofs.lemmas.Bool.{both_ways}
use Rattle.std.proofs.lemmas.Bool.Decides.{nat_tests}
use Rattle.std.proofs.lemmas.List.{get_or-set_other, length-set, length-map}
use Rattle.std.proofs.lemmas.Grind.{get_or-set_at}
use Rattle.std.proofs.lemmas.List.Edits.{get_or-remove_above, length-remove}
use Rattle.memory_stores.specs.declared.state.FileState.{FileState}
use Rattle.memory_stores.specs.declared.undo.Undo.{Undo}
use Rattle.memory_stores.specs.declared.undo.Undo.TheVariants.{Changed, Marked, Inserted, Synced}
use Rattle.memory_stores.specs.declared.row.FileRow.{FileRow}
use Rattle.memory_stores.specs.Rows.{entry_of, row_entries, are_in_order, states_of}
use Rattle.memory_stores.specs.States.{States, now_at}
use Rattle.memory_stores.specs.Past.{Entries, early, early_entry, early_entries, no_entry, with_changed, past_of, past_by}
use Rattle.memory_stores.specs.Picked.{last_states}
use Rattle.memory_stores.specs.Walk.{place_before, synced_file}
use Rattle.memory_stores.proofs.Order.{by_bytes, greater_from_less, ties_decide}
use Rattle.memory_stores.proofs.Rows.{is_Less, left, right}
use Rattle.memory_stores.proofs.Maps.{holds, entries_states}
use Rattle.memory_stores.proofs.Now.{none_below}

pub both : (a b : Bool) → a ≡ true → b ≡ true → (a && b) ≡ true
both true b e f = f
both false b e f = absurd (both_ways false refl e)

-- ---- an entry that keeps its path
abbrev key : Entries → ℕ → List ℕ
key es i = (get_or es i no_entry).0

abbrev put_at : Entries → ℕ → FileState → Entries
put_at es i s = set es i (key es i, s)

below_put : (x : List ℕ) (es : Entries) (i : ℕ) (s : FileState) → below_all by_bytes x es ≡ true → below_all by_bytes x (put_at es i s) ≡ true
below_put x [] i s below = below
below_put x (e ∷ es) zero s below = below
below_put x (e ∷ es) (suc i) s below = both _ _ (left _ _ below) (below_put x es i s (right _ _ below))

sorted_put : (es : Entries) (i : ℕ) (s : FileState) → is_sorted by_bytes es ≡ true → is_sorted by_bytes (put_at es i s) ≡ true
sorted_put [] i s sorted = sorted
sorted_put (e ∷ es) zero s sorted = sorted
sorted_put (e ∷ es) (suc i) s sorted = both _ _ (below_put e.0 es i s (left _ _ sorted)) (sorted_put es i s (right _ _ sorted))

-- a look-up that finds nothing
none_parts : (b : Bool) (s : FileState) (o : Option FileState) → cond b (Some s) o ≡ None → (b ≡ false) × (o ≡ None)
none_parts true s o e = absurd (both_ways true (ap is_some e) refl)
none_parts false s o e = (refl, e)

none_behind : (q : List ℕ) (e : List ℕ × FileState) (es new : Entries) → find by_bytes q (e ∷ es) ≡ None → (find by_bytes q es ≡ None → find by_bytes q new ≡ None) → find by_bytes q (e ∷ new) ≡ None
none_behind q e es new none goes =
    let parts = none_parts (eq_by_cmp by_bytes q e.0) e.1 (find by_bytes q es) none in
    ap (λ b. cond b (Some e.1) (find by_bytes q new)) parts.0 ∙ goes parts.1

none_put : (q : List ℕ) (es : Entries) (i : ℕ) (s : FileState) → find by_bytes q es ≡ None → find by_bytes q (put_at es i s) ≡ None
none_put q [] i s none = none
none_put q (e ∷ es) zero s none =
    let parts = none_parts (eq_by_cmp by_bytes q e.0) e.1 (find by_bytes q es) none in
    ap (λ b. cond b (Some s) (find by_bytes q es)) parts.0 ∙ parts.1
none_put q (e ∷ es) (suc i) s none = none_behind q e es (put_at es i s) none (none_put q es i s)

-- ---- an entry that goes
below_removed : (x : List ℕ) (es : Entries) (i : ℕ) → below_all by_bytes x es ≡ true → below_all by_bytes x (remove es i) ≡ true
below_removed x [] zero below = below
below_removed x [] (suc i) below = below
below_removed x (e ∷ es) zero below = right _ _ below
below_removed x (e ∷ es) (suc i) below = both _ _ (left _ _ below) (below_removed x es i (right _ _ below))

sorted_removed : (es : Entries) (i : ℕ) → is_sorted by_bytes es ≡ true → is_sorted by_bytes (remove es i) ≡ true
sorted_removed [] zero sorted = sorted
sorted_removed [] (suc i) sorted = sorted
sorted_removed (e ∷ es) zero sorted = right _ _ sorted
sorted_removed (e ∷ es) (suc i) sorted = both _ _ (below_removed e.0 es i (left _ _ sorted)) (sorted_removed es i (right _ _ sorted))

none_removed : (q : List ℕ) (es : Entries) (i : ℕ) → find by_bytes q es ≡ None → find by_bytes q (remove es i) ≡ None
none_removed q [] zero none = none
none_removed q [] (suc i) none = none
none_removed q (e ∷ es) zero none = (none_parts (eq_by_cmp by_bytes q e.0) e.1 (find by_bytes q es) none).1
none_removed q (e ∷ es) (suc i) none = none_behind q e es (remove es i) none (none_removed q es i)

kept_below : (es : Entries) (i at : ℕ) → at < i → get_or (remove es i) at no_entry ≡ get_or es at no_entry
kept_below [] zero at lt = refl
kept_below [] (suc i) at lt = refl
kept_below (e ∷ es) zero at lt = absurd (omega (arith, lt))
kept_below (e ∷ es) (suc i) zero lt = refl
kept_below (e ∷ es) (suc i) (suc at) lt = kept_below es i at (omega (arith, lt))

still_there : (es : Entries) (i at : ℕ) → at < i → at < length es → at < length (remove es i)
still_there [] i at lt in_range = absurd (omega (arith, in_range))
still_there (e ∷ es) zero at lt in_range = absurd (omega (arith, lt))
still_there (e ∷ es) (suc i) zero lt in_range = omega arith
still_there (e ∷ es) (suc i) (suc at) lt in_range = omega (arith, still_there es i at (omega (arith, lt)) (omega (arith, in_range)))

-- ---- an entry at its place
below_at : (x : List ℕ) (es : Entries) (i : ℕ) (path : List ℕ) (s : FileState) → below_all by_bytes x es ≡ true → i < length es → get_or es i no_entry ≡ (path, s) → by_bytes x path ≡ Less
below_at x [] i path s below lt is = absurd (omega (arith, lt))
below_at x (e ∷ es) zero path s below lt is = subst (λ p. by_bytes x p ≡ Less) (ap (λ e. e.0) is) (is_Less _ (left _ _ below))
below_at x (e ∷ es) (suc i) path s below lt is = below_at x es i path s (right _ _ below) (omega (arith, lt)) is

apart : (x path : List ℕ) → by_bytes x path ≡ Less → eq_by_cmp by_bytes path x ≡ false
apart x path less = ap is_eq (greater_from_less x path less)

find_at : (es : Entries) (i : ℕ) (path : List ℕ) (s : FileState) → is_sorted by_bytes es ≡ true → i < length es → get_or es i no_entry ≡ (path, s) → find by_bytes path es ≡ Some s
find_at [] i path s sorted lt is = absurd (omega (arith, lt))
find_at (e ∷ es) zero path s sorted lt is =
    ap (λ b. cond b (Some e.1) (find by_bytes path es)) ((ties_decide path e.0).1 (sym (ap (λ e. e.0) is))) ∙ ap (λ e. Some e.1) is
find_at (e ∷ es) (suc i) path s sorted lt is =
    let off = apart e.0 path (below_at e.0 es i path s (left _ _ sorted) (omega (arith, lt)) is) in
    ap (λ b. cond b (Some e.1) (find by_bytes path es)) off ∙ find_at es i path s (right _ _ sorted) (omega (arith, lt)) is

gone_at : (es : Entries) (i : ℕ) (path : List ℕ) (s : FileState) → is_sorted by_bytes es ≡ true → i < length es → get_or es i no_entry ≡ (path, s) → find by_bytes path (remove es i) ≡ None
gone_at [] i path s sorted lt is = absurd (omega (arith, lt))
gone_at (e ∷ es) zero path s sorted lt is = none_below path es (subst (λ p. below_all by_bytes p es ≡ true) (ap (λ e. e.0) is) (left _ _ sorted))
gone_at (e ∷ es) (suc i) path s sorted lt is =
    let off = apart e.0 path (below_at e.0 es i path s (left _ _ sorted) (omega (arith, lt)) is) in
    ap (λ b. cond b (Some e.1) (find by_bytes path (remove es i))) off ∙ gone_at es i path s (right _ _ sorted) (omega (arith, lt)) is

-- ---- the walk
abbrev FoundBy : List Undo → Entries → List ℕ → Option (List ℕ)
FoundBy undos es path = now_at (finmap.get (last_states (past_of undos es)) path)

abbrev states_by : Entries → States
states_by es = finmap.from_sorted es

found : (es : Entries) (path : List ℕ) (o : Option FileState) → is_sorted by_bytes es ≡ true → find by_bytes path es ≡ o → now_at (finmap.get (states_by es) path) ≡ now_at o
found es path o sorted e = ap now_at (finmap.get-from_sorted by_bytes es path (holds _ sorted) ∙ e)

-- a path that isn't there now wasn't there before
gone : (undos : List Undo) (es : Entries) (path : List ℕ) → is_sorted by_bytes es ≡ true → find by_bytes path es ≡ None → FoundBy undos es path ≡ None
gone [] es path sorted none = found es path None sorted none
gone (Synced call ∷ undos) es path sorted none = found es path None sorted none
gone (Changed i old ∷ undos) es path sorted none = gone undos (put_at es i (early old)) path (sorted_put es i (early old) sorted) (none_put path es i (early old) none)
gone (Marked i call ∷ undos) es path sorted none =
    let s = with_changed call (get_or es i no_entry).1 in
    gone undos (put_at es i s) path (sorted_put es i s sorted) (none_put path es i s none)
gone (Inserted i ∷ undos) es path sorted none = gone undos (remove es i) path (sorted_removed es i sorted) (none_removed path es i none)

put_there : (es : Entries) (i at : ℕ) (path : List ℕ) (s t : FileState) → at ≡ i → at < length es → get_or es at no_entry ≡ (path, s) → get_or (put_at es i t) at no_entry ≡ (path, t)
put_there es i at path s t same lt is =
    get_or-set_at es i at (key es i, t) no_entry same (omega (arith, same, lt))
    ∙ ap (λ k. (k, t)) (ap (key es) (sym same) ∙ ap (λ e. e.0) is)

put_other : (es : Entries) (i at : ℕ) (path : List ℕ) (s t : FileState) → at ≢ i → get_or es at no_entry ≡ (path, s) → get_or (put_at es i t) at no_entry ≡ (path, s)
put_other es i at path s t other is = get_or-set_other es i at (key es i, t) no_entry other ∙ is

-- from what is said of the calls before it to what is said of a call
abbrev Walked : List Undo → List ℕ → Type 0
Walked undos path = (es : Entries) (at : ℕ) (s : FileState) → is_sorted by_bytes es ≡ true → at < length es → get_or es at no_entry ≡ (path, s) → synced_file undos at s.now ≡ FoundBy undos es path

walked_changed : (undos : List Undo) (path : List ℕ) (i : ℕ) (old : FileState) → Walked undos path → Walked (Changed i old ∷ undos) path
walked_changed undos path i old goes es at s sorted lt is = by_place (i == at) refl
  where
    new : Entries
    new = put_at es i (early old)

    in_range : at < length new
    in_range = omega (arith, lt, length-set es i (key es i, early old))

    by_place : (b : Bool) → (i == at) ≡ b → synced_file undos at (if b then old.now else s.now) ≡ FoundBy undos new path
    by_place true e = goes new at (early old) (sorted_put es i (early old) sorted) in_range (put_there es i at path s (early old) (grind (arith, nat_tests, e)) lt is)
    by_place false e = goes new at s (sorted_put es i (early old) sorted) in_range (put_other es i at path s (early old) (grind (arith, nat_tests, e)) is)

walked_marked : (undos : List Undo) (path : List ℕ) (i call : ℕ) → Walked undos path → Walked (Marked i call ∷ undos) path
walked_marked undos path i call goes es at s sorted lt is = by_place (i == at) refl
  where
    state : FileState
    state = with_changed call (get_or es i no_entry).1

    new : Entries
    new = put_at es i state

    in_range : at < length new
    in_range = omega (arith, lt, length-set es i (key es i, state))

    by_place : (b : Bool) → (i == at) ≡ b → synced_file undos at s.now ≡ FoundBy undos new path
    by_place true e =
        let same : at ≡ i = grind (arith, nat_tests, e) in
        let here : get_or new at no_entry ≡ (path, with_changed call s) = put_there es i at path s state same lt is ∙ ap (λ f. (path, with_changed call f)) (ap (λ j. (get_or es j no_entry).1) (sym same) ∙ ap (λ e. e.1) is) in
        goes new at (with_changed call s) (sorted_put es i state sorted) in_range here
    by_place false e = goes new at s (sorted_put es i state sorted) in_range (put_other es i at path s state (grind (arith, nat_tests, e)) is)

walked_inserted : (undos : List Undo) (path : List ℕ) (i : ℕ) → Walked undos path → Walked (Inserted i ∷ undos) path
walked_inserted undos path i goes es at s sorted lt is = by_place (i == at) refl
  where
    new : Entries
    new = remove es i

    by_side : (b : Bool) → nat_lt i at ≡ b → at ≢ i → synced_file undos (if b then at - 1 else at) s.now ≡ FoundBy undos new path
    by_side true e other =
        let less : i < at = grind (arith, nat_tests, e) in
        let back : at - 1 + 1 ≡ at = omega (arith, less) in
        let count = length-remove es i (omega (arith, less, lt)) in
        goes new (at - 1) s (sorted_removed es i sorted) (omega (arith, less, lt, count))
        (get_or-remove_above es i no_entry (at - 1) (omega (arith, less)) (omega (arith, less, lt)) ∙ (ap (λ j. get_or es j no_entry) back ∙ is))
    by_side false e other =
        let less : at < i = grind (arith, nat_tests, e, other) in
        goes new at s (sorted_removed es i sorted) (still_there es i at less lt) (kept_below es i at less ∙ is)

    by_place : (b : Bool) → (i == at) ≡ b → (if b then None else synced_file undos (place_before (Inserted i) at) s.now) ≡ FoundBy undos new path
    by_place true e =
        let same : at ≡ i = grind (arith, nat_tests, e) in
        sym (gone undos new path (sorted_removed es i sorted) (gone_at es i path s sorted (omega (arith, same, lt)) (ap (λ j. get_or es j no_entry) (sym same) ∙ is)))
    by_place false e = by_side (nat_lt i at) refl (grind (arith, nat_tests, e))

walked : (undos : List Undo) (path : List ℕ) → Walked undos path
walked [] path es at s sorted lt is = sym (found es path (Some s) sorted (find_at es at path s sorted lt is))
walked (Synced call ∷ undos) path es at s sorted lt is = sym (found es path (Some s) sorted (find_at es at path s sorted lt is))
walked (Changed i old ∷ undos) path es at s sorted lt is = walked_changed undos path i old (walked undos path) es at s sorted lt is
walked (Marked i call ∷ undos) path es at s sorted lt is = walked_marked undos path i call (walked undos path) es at s sorted lt is
walked (Inserted i ∷ undos) path es at s sorted lt is = walked_inserted undos path i (walked undos path) es at s sorted lt is

-- ---- by rows
below_early : (x : List ℕ) (es : Entries) → below_all by_bytes x es ≡ true → below_all by_bytes x (early_entries es) ≡ true
below_early x [] below = below
below_early x (e ∷ es) below = both _ _ (left _ _ below) (below_early x es (right _ _ below))

sorted_early : (es : Entries) → is_sorted by_bytes es ≡ true → is_sorted by_bytes (early_entries es) ≡ true
sorted_early [] sorted = sorted
sorted_early (e ∷ es) sorted = both _ _ (below_early e.0 es (left _ _ sorted)) (sorted_early es (right _ _ sorted))

early_at : (rows : List FileRow) (i : ℕ) (row : FileRow) → i < length rows → row ≡ get_or rows i row → get_or (early_entries (row_entries rows)) i no_entry ≡ (row.path, early row.state)
early_at [] i row lt is = absurd (omega (arith, lt))
early_at (r ∷ rows) zero row lt is = ap (λ r. (r.path, early r.state)) (sym is)
early_at (r ∷ rows) (suc i) row lt is = early_at rows i row (omega (arith, lt)) is

pub synced_is : (log : List Undo) (rows : List FileRow) (at : ℕ) (row : FileRow) → IsTrue (are_in_order rows) → at < length rows → row ≡ get_or rows at row
    → synced_file (reverse log) at row.state.now ≡ now_at (finmap.get (last_states (past_by log (states_of rows))) row.path)
synced_is log rows at row sorted lt is =
    let es = row_entries rows in
    let count : length (early_entries es) ≡ length rows = length-map es early_entry ∙ length-map rows entry_of in
    subst (λ es. synced_file (reverse log) at row.state.now ≡ FoundBy (reverse log) (early_entries es) row.path) (sym (entries_states rows sorted))
    (walked (reverse log) row.path (early_entries es) at (early row.state) (sorted_early es sorted) (omega (arith, lt, count)) (early_at rows at row lt is))
