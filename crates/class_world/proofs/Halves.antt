-- Members in the order of their names, and where those of a name stand among them.
use Rattle.std.proofs.Common.{◌≡◌, ◌∙◌, refl, sym, ap, subst, ℕ, zero, suc, ◌+◌, ◌-◌, ◌<◌, ◌≤◌, arith, List, [], ◌∷◌}
use Rattle.std.proofs.Common.{Bool, true, false, not, ◌&&◌, cond, length, take, drop, get_or, filter}
use Rattle.std.proofs.Common.{ltb, ltb-true, ltb-false}
use lib.Seq.{take-nil, drop-nil}
use Rattle.std.specs.Cmp.{nat_cmp_total, IsTotalOrder, IsStrictWeakOrder}
use Rattle.std.specs.Cmp.Lexicographic.{slice_cmp, lists_total}
use Rattle.std.specs.List.{All, AllWithin}
use Rattle.std.specs.List.Sorted.{IsNonDecreasingBy, IsPartitionedBy, IsPartitionPoint, IsSortedByKey, IsStableBy, ties}
use Rattle.std.specs.Ordering.{nat_cmp, is_lt, is_le, is_eq, ordering_index, ordering_reverse}
use Rattle.std.specs.declared.cmp.Ordering.{Ordering}
use Rattle.std.specs.declared.cmp.Ordering.TheVariants.{Less, Equal, Greater}
use Rattle.std.proofs.lemmas.List.{get_or-drop, length-drop}
use Rattle.std.proofs.lemmas.List.Elements.{filter_agree, filter_passes, All-head}
use Rattle.std.proofs.lemmas.List.Sorted.{ranks_by, searchable_from_sorted}
use Rattle.std.proofs.lemmas.Map.Text.{is_eq-slice_cmp}
use Rattle.jtypes.specs.World.{name_eq}
use Rattle.class_world.specs.Rows.{of_name}
use Rattle.class_world.proofs.Names.{true_false, same_names}

abbrev name_cmp : List ℕ → List ℕ → Ordering
name_cmp = slice_cmp nat_cmp

names_total : IsTotalOrder name_cmp
names_total = lists_total nat_cmp_total

-- ---- tests of an ordering

tie : (r : Ordering) → not (is_lt (ordering_reverse r)) && not (is_lt r) ≡ is_eq r
tie Less = refl
tie Equal = refl
tie Greater = refl

low : (r s : Ordering) → ordering_index r ≤ ordering_index s → is_lt s ≡ true → is_lt r ≡ true
low Less s h e = refl
low Equal Less h e = absurd (omega (arith, h))
low Equal Equal h e = true_false (sym e)
low Equal Greater h e = true_false (sym e)
low Greater Less h e = absurd (omega (arith, h))
low Greater Equal h e = true_false (sym e)
low Greater Greater h e = true_false (sym e)

no_higher : (r s : Ordering) → ordering_index r ≤ ordering_index s → is_le s ≡ true → is_le r ≡ true
no_higher Less s h e = refl
no_higher Equal s h e = refl
no_higher Greater Less h e = absurd (omega (arith, h))
no_higher Greater Equal h e = absurd (omega (arith, h))
no_higher Greater Greater h e = true_false (sym e)

lt_le : (r : Ordering) → is_lt r ≡ true → is_le r ≡ true
lt_le Less e = refl
lt_le Equal e = refl
lt_le Greater e = true_false (sym e)

lt_apart : (r : Ordering) → is_lt r ≡ true → is_eq r ≡ false
lt_apart Less e = refl
lt_apart Equal e = true_false (sym e)
lt_apart Greater e = refl

gt_apart : (r : Ordering) → is_le r ≡ false → is_eq r ≡ false
gt_apart Less e = true_false e
gt_apart Equal e = true_false e
gt_apart Greater e = refl

between : (r : Ordering) → is_lt r ≡ false → is_le r ≡ true → is_eq r ≡ true
between Less e f = true_false e
between Equal e f = refl
between Greater e f = true_false (sym f)

-- ---- what a test keeps

module _ {A : Type 0} (p : A → Bool) where
  pub past : (xs : List A) (i : ℕ) → AllWithin (λ y. p y ≡ false) xs 0 i → filter p xs ≡ filter p (drop i xs)
  past xs zero h = refl
  past [] (suc i) h = ap (filter p) (sym (drop-nil (suc i)))
  past (x ∷ xs) (suc i) h =
      ap (λ b. cond b (x ∷ filter p xs) (filter p xs)) (h 0 x (omega arith) (omega arith))
      ∙ past xs i (λ k d l m. h (suc k) d (omega arith) (omega (arith, m)))

  pub front : (xs : List A) (m : ℕ) → ((k : ℕ) (d : A) → k < m → k < length xs → p (get_or xs k d) ≡ true)
      → ((k : ℕ) (d : A) → m ≤ k → k < length xs → p (get_or xs k d) ≡ false) → filter p xs ≡ take m xs
  front [] m f g = sym (take-nil m)
  front (x ∷ xs) zero f g =
      ap (λ b. cond b (x ∷ filter p xs) (filter p xs)) (g 0 x (omega arith) (omega arith))
      ∙ front xs zero (λ k d l. absurd (omega (arith, l))) (λ k d l m. g (suc k) d (omega arith) (omega (arith, m)))
  front (x ∷ xs) (suc m) f g =
      ap (λ b. cond b (x ∷ filter p xs) (filter p xs)) (f 0 x (omega arith) (omega arith))
      ∙ ap (λ ys. x ∷ ys)
      (front xs m (λ k d l n. f (suc k) d (omega (arith, l)) (omega (arith, n)))
      (λ k d l n. g (suc k) d (omega (arith, l)) (omega (arith, n))))

-- ---- the members of a name

module _ {A : Type 0} (name : A → List ℕ) (n : List ℕ) where
  abbrev by_name : A → Ordering
  by_name x = name_cmp (name x) n

  same_test : (x : A) → name_eq (name x) n ≡ is_eq (by_name x)
  same_test x = sym (is_eq-slice_cmp (name x) n)

  module _ (xs : List A) (sorted : IsSortedByKey name name_cmp xs) where
    rising : IsNonDecreasingBy (λ y. ordering_index (by_name y)) xs
    rising = searchable_from_sorted names_total name xs n sorted

    pub parted_below : IsPartitionedBy (λ y. is_lt (by_name y)) xs
    parted_below i j d le lt e = low (by_name (get_or xs i d)) (by_name (get_or xs j d)) (rising i j d le lt) e

    pub parted_upto : IsPartitionedBy (λ y. is_le (by_name y)) xs
    parted_upto i j d le lt e = no_higher (by_name (get_or xs i d)) (by_name (get_or xs j d)) (rising i j d le lt) e

  module _ (xs : List A) (i j : ℕ) (low_end : i ≤ length xs) (high_end : j ≤ length xs)
      (below : IsPartitionPoint (λ y. is_lt (by_name y) ≡ true) (λ y. is_lt (by_name y) ≡ false) xs i)
      (upto : IsPartitionPoint (λ y. is_le (by_name y) ≡ true) (λ y. is_le (by_name y) ≡ false) xs j) where
    -- one that stands behind all of the name isn't in front of them
    crossed : A → j < i → ⊥
    crossed d lt = true_false (sym (lt_le _ (below.0 j d (omega arith) lt)) ∙ upto.1 j d (omega arith) (omega arith))

    pub in_order : i ≤ j
    in_order = by_test (ltb j i) refl
      where
        some_of : (ys : List A) → j < length ys → A
        some_of [] l = absurd (omega (arith, l))
        some_of (y ∷ ys) l = y

        by_test : (b : Bool) → ltb j i ≡ b → i ≤ j
        by_test true e =
            let lt : j < i = ltb-true j i e in absurd (crossed (some_of xs (omega arith)) lt)
        by_test false e = ltb-false j i e

    pub found : take (j - i) (drop i xs) ≡ of_name name n xs
    found = sym (
        filter_agree (λ x. name_eq (name x) n) (λ x. is_eq (by_name x)) same_test xs
        ∙ past (λ x. is_eq (by_name x)) xs i (λ k d l m. lt_apart _ (below.0 k d l m))
        ∙ front (λ x. is_eq (by_name x)) (drop i xs) (j - i)
        (λ k d l m. ap (λ x. is_eq (by_name x)) (get_or-drop i xs k d)
        ∙ between _ (below.1 (i + k) d (omega arith) (omega (arith, l, high_end)))
        (upto.0 (i + k) d (omega arith) (omega (arith, l))))
        (λ k d l m. ap (λ x. is_eq (by_name x)) (get_or-drop i xs k d)
        ∙ gt_apart _ (upto.1 (i + k) d (omega (arith, l)) (omega (arith, m, length-drop i xs)))))

-- ---- a sort by names, which keeps the order of those of one name

module _ {A : Type 0} (name : A → List ℕ) where
  abbrev pub before : A → A → Bool
  before x y = is_lt (name_cmp (name x) (name y))

  pub ranked : IsStrictWeakOrder before
  ranked = ranks_by names_total name

  tied : (n : List ℕ) (x y : A) → name x ≡ n → ties before x y ≡ name_eq (name y) n
  tied n x y e =
      ap (λ r. not (is_lt r) && not (is_lt (name_cmp (name y) (name x)))) (names_total.antisymm (name x) (name y))
      ∙ tie (name_cmp (name y) (name x))
      ∙ is_eq-slice_cmp (name y) (name x)
      ∙ ap (λ m. name_eq (name y) m) e

  module _ (xs ys : List A) (stable : IsStableBy before xs ys) (n : List ℕ) where
    beside : (x : A) → name x ≡ n → of_name name n ys ≡ of_name name n xs
    beside x e =
        filter_agree (λ y. name_eq (name y) n) (ties before x) (λ y. sym (tied n x y e)) ys
        ∙ stable x
        ∙ filter_agree (ties before x) (λ y. name_eq (name y) n) (λ y. tied n x y e) xs

    first_is : (zs us : List A) (x : A) → of_name name n zs ≡ x ∷ us → name x ≡ n
    first_is zs us x e =
        same_names (name x) n
        (All-head (λ y. name_eq (name y) n ≡ true) x us
        (subst (λ vs. All (λ y. name_eq (name y) n ≡ true) vs) e (filter_passes (λ y. name_eq (name y) n) zs)))

    pub kept_by_name : of_name name n ys ≡ of_name name n xs
    kept_by_name = by_lists (of_name name n xs) (of_name name n ys) refl refl
      where
        by_lists : (us vs : List A) → of_name name n xs ≡ us → of_name name n ys ≡ vs
            → of_name name n ys ≡ of_name name n xs
        by_lists [] [] e f = f ∙ sym e
        by_lists [] (y ∷ vs) e f = beside y (first_is ys vs y f)
        by_lists (x ∷ us) vs e f = beside x (first_is xs us x e)
