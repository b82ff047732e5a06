-- What a search by halves among entries in order finds.
use Rattle.std.proofs.Common.{◌≡◌, ◌⊎◌, inl, inr, ℕ, zero, suc, ◌+◌, ◌<◌, false, List, [], ◌∷◌, map, length, get_or, Option, Some, None, Result, Ok, Err, IfOk, IfErr, refl, sym, ap, subst, arith}
use Rattle.std.specs.List.Sorted.{IsSearchInRange, IsBinarySearchResult, IsNonDecreasingBy}
use Rattle.std.specs.declared.cmp.Ordering.TheVariants.{Less}
use Rattle.std.specs.Ordering.{is_eq, is_lt, ordering_index}
use Rattle.std.specs.FinMap.{find}
use Rattle.std.proofs.lemmas.Bool.{cases_lt}
use Rattle.std.proofs.lemmas.List.{length-map, get_or-map}
use Rattle.std.proofs.lemmas.List.Sorted.{searchable_from_sorted}
use Rattle.std.proofs.lemmas.Map.Keys.{Less-from_sorted}
use Rattle.rw_host.specs.Files.{IsInOrder}
use Rattle.journal_text.specs.declared.batch.Entry.{Entry}
use Rattle.journal_text.specs.Changes.{change_of, changes_of, Rises}
use Rattle.standing_files.proofs.Order.{by_bytes, total, exact, greater_from_less, less_from_greater, equal_from_same}
use Rattle.standing_files.proofs.Chains.{Path, Chain, keys_of, ties, weaker, chain_from_rises, sorted_from_chain}

abbrev path_of : Entry → Path
path_of entry = entry.path

paths_same : (es : List Entry) → map path_of es ≡ keys_of (changes_of es)
paths_same [] = refl
paths_same (e ∷ es) = ap (λ rest. e.path ∷ rest) (paths_same es)

in_order : (es : List Entry) → Rises [] (changes_of es) → IsInOrder (map path_of es)
in_order es rises = subst IsInOrder (sym (paths_same es)) (sorted_from_chain (Some []) _ (chain_from_rises [] (changes_of es) rises))

path_at : (es : List Entry) (i : ℕ) (d : Entry) → i < length es → get_or (map path_of es) i [] ≡ (get_or es i d).path
path_at es i d lt = get_or-map path_of es i d [] lt

rises_at : (es : List Entry) → Rises [] (changes_of es) → (k : ℕ) (d : Entry) → k + 1 < length es → by_bytes (get_or es k d).path (get_or es (k + 1) d).path ≡ Less
rises_at es rises k d lt =
    rw (← path_at es k d (omega arith), ← path_at es (k + 1) d lt)
    (Less-from_sorted by_bytes (map path_of es) k (k + 1) [] (in_order es rises) (omega arith) (omega (arith, length-map es path_of)))

searchable : (es : List Entry) (path : Path) → Rises [] (changes_of es) → IsNonDecreasingBy (λ e. ordering_index (by_bytes e.path path)) es
searchable es path rises = searchable_from_sorted total path_of es path (λ k d le lt. ap is_lt (greater_from_less (get_or es k d).path (get_or es (k + 1) d).path (rises_at es rises k d lt)))

-- ---- the entry is there
behind_place : (x : Path) (es : List Entry) (i : ℕ) (d : Entry) → Chain (Some x) (keys_of (changes_of es)) → i < length es → by_bytes x (get_or es i d).path ≡ Less
behind_place x [] i d chain lt = absurd (omega arith)
behind_place x (e ∷ es) zero d chain lt = chain.0
behind_place x (e ∷ es) (suc i) d chain lt = behind_place x es i d (weaker (Some x) e.path (keys_of (changes_of es)) chain.0 chain.1) (omega arith)

find_place : (b : Option Path) (es : List Entry) (path : Path) (i : ℕ) (d : Entry) → Chain b (keys_of (changes_of es)) → i < length es → (get_or es i d).path ≡ path → find by_bytes path (changes_of es) ≡ Some (change_of (get_or es i d)).1
find_place b [] path i d chain lt here = absurd (omega arith)
find_place b (e ∷ es) path zero d chain lt here = rw (equal_from_same path e.path (sym here)) refl
find_place b (e ∷ es) path (suc i) d chain lt here =
    let before : by_bytes e.path path ≡ Less = subst (λ p. by_bytes e.path p ≡ Less) here (behind_place e.path es i d chain.1 (omega arith)) in
    rw (greater_from_less e.path path before) (find_place (Some e.path) es path i d chain.1 (omega arith) here)

-- ---- it isn't there
find_absent : (es : List Entry) (path : Path) → ((j : ℕ) (d : Entry) → j < length es → ties path (get_or es j d).path ≡ false) → find by_bytes path (changes_of es) ≡ None
find_absent [] path apart = refl
find_absent (e ∷ es) path apart = rw (apart 0 e (omega arith)) (find_absent es path (λ j d lt. apart (suc j) d (omega arith)))

either : {A B C : Type 0} → A ⊎ B → (A → C) → (B → C) → C
either (inl a) f g = f a
either (inr b) f g = g b

pub record IsFound (es : List Entry) (path : Path) (r : Result ℕ ℕ) : Type 0 where
  pub in_range : IfOk r (λ at. at < length es)
  pub found : IfOk r (λ at. (d : Entry) → find by_bytes path (changes_of es) ≡ Some (change_of (get_or es at d)).1)
  pub absent : IfErr r (λ _. find by_bytes path (changes_of es) ≡ None)

pub searched : (es : List Entry) (path : Path) (r : Result ℕ ℕ) → Rises [] (changes_of es) → IsSearchInRange r (length es) → IsBinarySearchResult (λ e. by_bytes e.path path) es r → IsFound es path r
searched es path (Ok at) rises in_range equal = record {
  in_range = in_range;
  found = λ d. find_place (Some []) es path at d (chain_from_rises [] (changes_of es) rises) in_range (exact _ _ (equal d));
  absent = tt;
}
searched es path (Err at) rises in_range parted =
    let parts = parted (searchable es path rises) in
    record {
      in_range = tt;
      found = tt;
      absent = find_absent es path (λ j d lt. either (cases_lt j at)
          (λ low. ap is_eq (greater_from_less (get_or es j d).path path (parts.0 j d (omega arith) low)))
          (λ high. ap is_eq (less_from_greater (get_or es j d).path path (parts.1 j d high lt))));
    }
