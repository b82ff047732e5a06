-- What a binary search among rows in order finds, and that a sort of rows with distinct paths puts them in order.
use Rattle.std.proofs.Common.{◌≡◌, ℕ, ◌+◌, ◌<◌, Bool, false, List, [], ◌∷◌, map, length, get_or, Option, Some, None, Result, Ok, Err, IfOk, IfErr, refl, sym, ap, ◌∙◌, subst, arith}
use Rattle.std.specs.Prelude.{IsTrue}
use Rattle.std.specs.List.{IsDistinct, Contains}
use Rattle.std.specs.List.Sorted.{IsSearchInRange, IsBinarySearchResult, IsNonDecreasingBy, IsStrictlySortedBy, IsPermutation, IsSortedBy}
use Rattle.std.specs.Map.{lookup}
use Rattle.std.specs.declared.cmp.Ordering.{Ordering}
use Rattle.std.specs.declared.cmp.Ordering.TheVariants.{Less, Equal, Greater}
use Rattle.std.specs.Ordering.{eq_by_cmp, is_eq, is_lt, ordering_index}
use Rattle.std.specs.Cmp.{eq_by_cmp_equiv}
use Rattle.std.specs.FinMap as finmap
use Rattle.std.specs.FinMap.{find}
use Rattle.std.proofs.lemmas.Bool.{both_ways}
use Rattle.std.proofs.lemmas.List.{length-map, get_or-map}
use Rattle.std.proofs.lemmas.List.Sorted.{searchable_from_sorted, IsPermutation-map, IsPermutation-sym, Contains-permutation}
use Rattle.std.proofs.lemmas.Map.Keys.{Less-from_sorted, apart_from_distinct, sorted_from_all_adjacent, IsDistinct-IsPermutation}
use Rattle.std.proofs.lemmas.Map.Made.{IsDistinct-from_AllPairs}
use Rattle.std.proofs.lemmas.Map.Entries.{place_from_lookup, lookup_from_place}
use Rattle.std.proofs.lemmas.Option.{slice_get_within, slice_get-get_or, get_or_from_slice_get}
use Rattle.std.proofs.lemmas.Simd.{map-map}
use Rattle.memory_stores.specs.declared.row.FileRow.{FileRow}
use Rattle.memory_stores.specs.Rows.{entry_of, row_entries, are_in_order, states_of, IsPlaceOf, IsGapFor}
use Rattle.memory_stores.specs.States.{state_of_write}
use Rattle.memory_stores.specs.Table.{GivenFiles, initial_states, IsEachOnce}
use Rattle.memory_stores.proofs.Order.{by_bytes, total, exact, greater_from_less, less_from_greater, ties_decide}
use Rattle.memory_stores.proofs.Rows.{keys_in_order, in_order_from_keys}
use Rattle.memory_stores.proofs.Maps.{states_get}

abbrev pub path_of : FileRow → List ℕ
path_of row = row.path

pub keys_are_paths : (rows : List FileRow) → map (λ e. e.0) (row_entries rows) ≡ map path_of rows
keys_are_paths rows = map-map (λ e. e.0) entry_of rows

pub paths_in_order : (rows : List FileRow) → IsTrue (are_in_order rows) → IsStrictlySortedBy by_bytes (map path_of rows)
paths_in_order rows sorted = subst (IsStrictlySortedBy by_bytes) (keys_are_paths rows) (keys_in_order (row_entries rows) sorted)

path_at : (rows : List FileRow) (i : ℕ) (d : FileRow) → i < length rows → get_or (map path_of rows) i [] ≡ (get_or rows i d).path
path_at rows i d lt = get_or-map path_of rows i d [] lt

rises : (rows : List FileRow) → IsTrue (are_in_order rows) → (k : ℕ) (d : FileRow) → k + 1 < length rows → by_bytes (get_or rows k d).path (get_or rows (k + 1) d).path ≡ Less
rises rows sorted k d lt =
    rw (← path_at rows k d (omega arith), ← path_at rows (k + 1) d lt)
    (Less-from_sorted by_bytes (map path_of rows) k (k + 1) [] (paths_in_order rows sorted) (omega arith) (omega (arith, length-map rows path_of)))

not_less : (r : Ordering) → r ≡ Greater → is_lt r ≡ false
not_less r e = ap is_lt e

searchable : (rows : List FileRow) (path : List ℕ) → IsTrue (are_in_order rows) → IsNonDecreasingBy (λ row. ordering_index (by_bytes row.path path)) rows
searchable rows path sorted = searchable_from_sorted total path_of rows path (λ k d le lt. not_less _ (greater_from_less (get_or rows k d).path (get_or rows (k + 1) d).path (rises rows sorted k d lt)))

pub searched : (rows : List FileRow) (path : List ℕ) (r : Result ℕ ℕ) → IsTrue (are_in_order rows) → IsSearchInRange r (length rows) → IsBinarySearchResult (λ row. by_bytes row.path path) rows r
    → record { found : IfOk r (IsPlaceOf rows path); absent : IfErr r (IsGapFor rows path) }
searched rows path (Ok at) sorted in_range equal = record { found = record { in_range = in_range; has_path = λ d. exact _ _ (equal d) }; absent = tt }
searched rows path (Err at) sorted in_range parted =
    let parts = parted (searchable rows path sorted) in
    record {
      found = tt;
      absent = record { in_range = in_range; smaller_before = λ j d lt. parts.0 j d (omega arith) lt; greater_after = λ j d le lt. parts.1 j d le lt };
    }

-- ---- a sort
abbrev pub ties : List ℕ → List ℕ → Bool
ties = eq_by_cmp by_bytes

-- neighbours of which the later isn't less, and which differ, rise
less_from_apart : (x y : List ℕ) → is_lt (by_bytes y x) ≡ false → ties x y ≡ false → by_bytes x y ≡ Less
less_from_apart x y low apart = elim (by_bytes x y) as (λ r. by_bytes x y ≡ r → r ≡ Less) [
  | Less ↦ λ e. refl
  | Equal ↦ λ e. absurd (both_ways _ apart (ap is_eq e))
  | Greater ↦ λ e. absurd (both_ways _ low (ap is_lt (less_from_greater x y e)))
] refl

abbrev pub path_less : FileRow → FileRow → Bool
path_less one other = is_lt (by_bytes one.path other.path)

sorted_paths : (rows : List FileRow) → IsSortedBy path_less rows → IsDistinct ties (map path_of rows) → IsStrictlySortedBy by_bytes (map path_of rows)
sorted_paths [] sorted distinct = sorted_from_all_adjacent total [] [] (λ k lt. absurd (omega arith))
sorted_paths (row ∷ rows) sorted distinct =
    let all = row ∷ rows in
    sorted_from_all_adjacent total (map path_of all) [] (λ k lt.
    let within : k + 1 < length all = omega (arith, length-map all path_of) in
    let low = sorted k row (omega arith) within in
    let before = get_or (map path_of all) k [] in
    let after = get_or (map path_of all) (k + 1) [] in
    let not_below : is_lt (by_bytes after before) ≡ false = rw (path_at all k row (omega arith), path_at all (k + 1) row within) low in
    less_from_apart before after not_below (apart_from_distinct ties (map path_of all) k (k + 1) [] distinct (omega arith) lt))

-- ---- a look-up in entries that changed places
find_is_lookup : {X : Type 0} (q : List ℕ) (es : List (List ℕ × X)) → find by_bytes q es ≡ lookup (ties q) es
find_is_lookup q [] = refl
find_is_lookup q (e ∷ es) = rw (find_is_lookup q es) refl

found_in_both : {X : Type 0} (es fs : List (List ℕ × X)) → IsPermutation es fs → IsDistinct ties (map (λ e. e.0) fs) → (q : List ℕ) (v : X) → find by_bytes q es ≡ Some v → find by_bytes q fs ≡ Some v
found_in_both es fs moved distinct q v found =
    let place = place_from_lookup (ties q) es v (sym (find_is_lookup q es) ∙ found) in
    let i = place.0 in
    let k = place.1 in
    let here : Contains es (k, v) = (i, slice_get_within es i (k, v) place.2, get_or_from_slice_get es i (k, v) (k, v) place.2) in
    let there = Contains-permutation es fs (k, v) moved here in
    let same : q ≡ k = (ties_decide q k).0 place.3 in
    find_is_lookup q fs ∙ rw same (lookup_from_place (eq_by_cmp_equiv total) fs there.0 k v distinct (slice_get-get_or fs there.0 (k, v) there.1 ∙ ap Some there.2))

same_found : {X : Type 0} (a b : Option X) → ((v : X) → a ≡ Some v → b ≡ Some v) → ((v : X) → b ≡ Some v → a ≡ Some v) → a ≡ b
same_found None None f g = refl
same_found None (Some v) f g = g v refl
same_found (Some v) b f g = sym (f v refl)

-- rows in order that are the given files
pub record IsSortOf (given : GivenFiles) (rows : List FileRow) : Type 0 where
  pub sorted : IsTrue (are_in_order rows)
  pub states : states_of rows ≡ finmap.from_entries (initial_states given)

pub is_sort_of : (given : GivenFiles) (old rows : List FileRow) → row_entries old ≡ initial_states given → IsPermutation old rows → IsSortedBy path_less rows → IsEachOnce given → IsSortOf given rows
is_sort_of given old rows same moved rising once =
    let given_keys : map (λ e. e.0) (initial_states given) ≡ map (λ file. file.0) given = map-map (λ e. e.0) (λ file. (file.0, state_of_write file.1.items 0)) given in
    let distinct : IsDistinct ties (map (λ file. file.0) given) = IsDistinct-from_AllPairs ties_decide _ once in
    let old_distinct : IsDistinct ties (map (λ e. e.0) (row_entries old)) = subst (IsDistinct ties) (sym (ap (map (λ e. e.0)) same ∙ given_keys)) distinct in
    let entries_moved = IsPermutation-map entry_of old rows moved in
    let keys_moved = IsPermutation-map (λ e. e.0) (row_entries old) (row_entries rows) entries_moved in
    let new_distinct : IsDistinct ties (map (λ e. e.0) (row_entries rows)) = IsDistinct-IsPermutation ties (eq_by_cmp_equiv total).symm _ _ keys_moved old_distinct in
    let strict = sorted_paths rows rising (subst (IsDistinct ties) (keys_are_paths rows) new_distinct) in
    let now : IsTrue (are_in_order rows) = in_order_from_keys (row_entries rows) (subst (IsStrictlySortedBy by_bytes) (sym (keys_are_paths rows)) strict) in
    let each = λ (q : List ℕ).
    states_get rows q now
    ∙ same_found _ _ (found_in_both _ _ (IsPermutation-sym _ _ entries_moved) old_distinct q) (found_in_both _ _ entries_moved new_distinct q)
    ∙ ap (find by_bytes q) same
    ∙ sym (finmap.get-from_entries total (initial_states given) q) in
    record { sorted = now; states = finmap.same_map total exact _ _ each }
