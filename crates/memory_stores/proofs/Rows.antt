-- What is at a path's place among rows whose paths rise, and what an edit there does.
use Rattle.std.proofs.Common.{◌≡◌, ℕ, zero, suc, Bool, true, false, not, List, [], ◌∷◌, map, get_or, set, Some, None, refl, sym, ap, ◌∙◌, subst, arith}
use Rattle.std.proofs.lemmas.Bool.{both_ways}
use Rattle.std.specs.Prelude.{IsTrue, ◌&&◌}
use Rattle.std.specs.List.{insert, remove, AllByRecursion}
use Rattle.std.specs.List.Sorted.{IsStrictlySortedBy}
use Rattle.std.specs.declared.cmp.Ordering.{Ordering}
use Rattle.std.specs.declared.cmp.Ordering.TheVariants.{Less, Equal, Greater}
use Rattle.std.specs.Ordering.{is_lt, eq_by_cmp}
use Rattle.std.specs.FinMap.{find, put, is_sorted}
use Rattle.std.specs.FinMap.Entries.{below_all, where_key}
use Rattle.memory_stores.specs.declared.row.FileRow.{FileRow}
use Rattle.memory_stores.specs.Rows.{entry_of, row_entries, are_in_order, IsPlaceOf, IsGapFor}
use Rattle.memory_stores.proofs.Order.{by_bytes, greater_from_less, less_from_greater, equal_from_same}

pub is_Less : (r : Ordering) → is_lt r ≡ true → r ≡ Less
is_Less Less e = refl
is_Less Equal e = absurd (both_ways false refl e)
is_Less Greater e = absurd (both_ways false refl e)

pub left : (a b : Bool) → (a && b) ≡ true → a ≡ true
left true b e = refl
left false b e = absurd (both_ways false refl e)

pub right : (a b : Bool) → (a && b) ≡ true → b ≡ true
right true b e = e
right false b e = absurd (both_ways false refl e)

-- ---- the row behind the first
place_tail : (row : FileRow) (rows : List FileRow) (path : List ℕ) (i : ℕ) → IsPlaceOf (row ∷ rows) path (suc i) → IsPlaceOf rows path i
place_tail row rows path i at = record { in_range = omega (arith, at.in_range); has_path = at.has_path }

gap_tail : (row : FileRow) (rows : List FileRow) (path : List ℕ) (i : ℕ) → IsGapFor (row ∷ rows) path (suc i) → IsGapFor rows path i
gap_tail row rows path i gap = record {
  in_range = omega (arith, gap.in_range);
  smaller_before = λ j d lt. gap.smaller_before (suc j) d (omega arith);
  greater_after = λ j d le lt. gap.greater_after (suc j) d (omega arith) (omega arith);
}

gap_later : (row : FileRow) (rows : List FileRow) (path : List ℕ) → IsGapFor (row ∷ rows) path 0 → IsGapFor rows path 0
gap_later row rows path gap = record {
  in_range = omega arith;
  smaller_before = λ j d lt. absurd (omega arith);
  greater_after = λ j d le lt. gap.greater_after (suc j) d (omega arith) (omega arith);
}

-- a path below all others is below the one at a place
below_place : (x : List ℕ) (rows : List FileRow) (path : List ℕ) (i : ℕ) → below_all by_bytes x (row_entries rows) ≡ true → IsPlaceOf rows path i → by_bytes x path ≡ Less
below_place x [] path i below at = absurd (omega (arith, at.in_range))
below_place x (row ∷ rows) path zero below at = subst (λ p. by_bytes x p ≡ Less) (at.has_path row) (is_Less _ (left _ _ below))
below_place x (row ∷ rows) path (suc i) below at = below_place x rows path i (right _ _ below) (place_tail row rows path i at)

-- the first path is below the one at a later place
first_below : (row : FileRow) (rows : List FileRow) (path : List ℕ) (i : ℕ) → IsTrue (are_in_order (row ∷ rows)) → IsPlaceOf (row ∷ rows) path (suc i) → by_bytes row.path path ≡ Less
first_below row rows path i sorted at = below_place row.path rows path i (left _ _ sorted) (place_tail row rows path i at)

-- ---- a row is put
pub put_gap : (rows : List FileRow) (new : FileRow) (i : ℕ) → IsGapFor rows new.path i → put by_bytes new.path new.state (row_entries rows) ≡ row_entries (insert rows i new)
put_gap [] new zero gap = refl
put_gap [] new (suc i) gap = absurd (omega (arith, gap.in_range))
put_gap (row ∷ rows) new zero gap = rw (less_from_greater row.path new.path (gap.greater_after 0 row (omega arith) (omega arith))) refl
put_gap (row ∷ rows) new (suc i) gap =
    rw (greater_from_less row.path new.path (gap.smaller_before 0 row (omega arith)))
    (ap (λ es. entry_of row ∷ es) (put_gap rows new i (gap_tail row rows new.path i gap)))

pub put_place : (rows : List FileRow) (new : FileRow) (i : ℕ) → IsTrue (are_in_order rows) → IsPlaceOf rows new.path i → put by_bytes new.path new.state (row_entries rows) ≡ row_entries (set rows i new)
put_place [] new i sorted at = absurd (omega (arith, at.in_range))
put_place (row ∷ rows) new zero sorted at =
    let e : row.path ≡ new.path = at.has_path row in
    rw (equal_from_same new.path row.path (sym e)) (ap (λ p. (p, new.state) ∷ row_entries rows) e)
put_place (row ∷ rows) new (suc i) sorted at =
    rw (greater_from_less row.path new.path (first_below row rows new.path i sorted at))
    (ap (λ es. entry_of row ∷ es) (put_place rows new i (right _ _ sorted) (place_tail row rows new.path i at)))

-- ---- a row is taken away
abbrev pub differs_from : List ℕ → List ℕ → Bool
differs_from path x = not (eq_by_cmp by_bytes path x)

kept : (row : FileRow) (rows : List FileRow) (path : List ℕ) → by_bytes path row.path ≡ Greater → where_key by_bytes (differs_from path) (row_entries (row ∷ rows)) ≡ entry_of row ∷ where_key by_bytes (differs_from path) (row_entries rows)
kept row rows path e = rw e refl

kept_below : (row : FileRow) (rows : List FileRow) (path : List ℕ) → by_bytes path row.path ≡ Less → where_key by_bytes (differs_from path) (row_entries (row ∷ rows)) ≡ entry_of row ∷ where_key by_bytes (differs_from path) (row_entries rows)
kept_below row rows path e = rw e refl

pub without_gap : (rows : List FileRow) (path : List ℕ) (i : ℕ) → IsGapFor rows path i → where_key by_bytes (differs_from path) (row_entries rows) ≡ row_entries rows
without_gap [] path i gap = refl
without_gap (row ∷ rows) path zero gap =
    kept_below row rows path (less_from_greater row.path path (gap.greater_after 0 row (omega arith) (omega arith)))
    ∙ ap (λ es. entry_of row ∷ es) (without_gap rows path 0 (gap_later row rows path gap))
without_gap (row ∷ rows) path (suc i) gap =
    kept row rows path (greater_from_less row.path path (gap.smaller_before 0 row (omega arith)))
    ∙ ap (λ es. entry_of row ∷ es) (without_gap rows path i (gap_tail row rows path i gap))

without_below : (rows : List FileRow) (path : List ℕ) → below_all by_bytes path (row_entries rows) ≡ true → where_key by_bytes (differs_from path) (row_entries rows) ≡ row_entries rows
without_below [] path below = refl
without_below (row ∷ rows) path below = kept_below row rows path (is_Less _ (left _ _ below)) ∙ ap (λ es. entry_of row ∷ es) (without_below rows path (right _ _ below))

pub without_place : (rows : List FileRow) (path : List ℕ) (i : ℕ) → IsTrue (are_in_order rows) → IsPlaceOf rows path i → where_key by_bytes (differs_from path) (row_entries rows) ≡ row_entries (remove rows i)
without_place [] path i sorted at = absurd (omega (arith, at.in_range))
without_place (row ∷ rows) path zero sorted at =
    let e : row.path ≡ path = at.has_path row in
    rw (equal_from_same path row.path (sym e)) (without_below rows path (subst (λ p. below_all by_bytes p (row_entries rows) ≡ true) e (left _ _ sorted)))
without_place (row ∷ rows) path (suc i) sorted at =
    kept row rows path (greater_from_less row.path path (first_below row rows path i sorted at))
    ∙ ap (λ es. entry_of row ∷ es) (without_place rows path i (right _ _ sorted) (place_tail row rows path i at))

-- ---- a path is looked up
pub find_gap : (rows : List FileRow) (path : List ℕ) (i : ℕ) → IsGapFor rows path i → find by_bytes path (row_entries rows) ≡ None
find_gap [] path i gap = refl
find_gap (row ∷ rows) path zero gap = rw (less_from_greater row.path path (gap.greater_after 0 row (omega arith) (omega arith))) (find_gap rows path 0 (gap_later row rows path gap))
find_gap (row ∷ rows) path (suc i) gap = rw (greater_from_less row.path path (gap.smaller_before 0 row (omega arith))) (find_gap rows path i (gap_tail row rows path i gap))

pub find_place : (rows : List FileRow) (path : List ℕ) (i : ℕ) (d : FileRow) → IsTrue (are_in_order rows) → IsPlaceOf rows path i → find by_bytes path (row_entries rows) ≡ Some (get_or rows i d).state
find_place [] path i d sorted at = absurd (omega (arith, at.in_range))
find_place (row ∷ rows) path zero d sorted at = rw (equal_from_same path row.path (sym (at.has_path row))) refl
find_place (row ∷ rows) path (suc i) d sorted at =
    rw (greater_from_less row.path path (first_below row rows path i sorted at)) (find_place rows path i d (right _ _ sorted) (place_tail row rows path i at))

-- ---- the order of the paths
all_below : {X : Type 0} (x : List ℕ) (es : List (List ℕ × X)) → below_all by_bytes x es ≡ true → AllByRecursion (λ y. by_bytes x y ≡ Less) (map (λ e. e.0) es)
all_below x [] below = tt
all_below x (e ∷ es) below = (is_Less _ (left _ _ below), all_below x es (right _ _ below))

pub keys_in_order : {X : Type 0} (es : List (List ℕ × X)) → is_sorted by_bytes es ≡ true → IsStrictlySortedBy by_bytes (map (λ e. e.0) es)
unfolding IsStrictlySortedBy
keys_in_order [] sorted = tt
keys_in_order (e ∷ es) sorted = (all_below e.0 es (left _ _ sorted), keys_in_order es (right _ _ sorted))

below_from_all : {X : Type 0} (x : List ℕ) (es : List (List ℕ × X)) → AllByRecursion (λ y. by_bytes x y ≡ Less) (map (λ e. e.0) es) → below_all by_bytes x es ≡ true
below_from_all x [] all = refl
below_from_all x (e ∷ es) all = rw all.0 (below_from_all x es all.1)

pub in_order_from_keys : {X : Type 0} (es : List (List ℕ × X)) → IsStrictlySortedBy by_bytes (map (λ e. e.0) es) → is_sorted by_bytes es ≡ true
unfolding IsStrictlySortedBy
in_order_from_keys [] keys = refl
in_order_from_keys (e ∷ es) keys = rw (below_from_all e.0 es keys.0) (in_order_from_keys es keys.1)
