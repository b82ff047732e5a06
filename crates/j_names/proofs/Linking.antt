-- Links of one number: one more, one less, and the way back.
use Rattle.std.proofs.Common.{◌≡◌, ◌∙◌, sym, ap, subst, refl, ℕ, List, [], ◌∷◌, ◌++◌, ◌+◌, ◌-◌, ◌<◌, ◌≤◌, ◌⊎◌, inl}
use Rattle.std.proofs.Common.{inr}
use Rattle.std.proofs.Common.{Bool, true, false, zero, suc, length, take, drop, get_or, set, filter, map, nat_eq}
use Rattle.std.proofs.Common.{arith}
use Rattle.std.proofs.Common.{eqb-true, length-append, if◌then◌else◌}
use Rattle.std.proofs.Math.ListN.{get_or-append}
use Rattle.std.proofs.Math.Seq.{take-append_seam, get_or-append_seam}
use Rattle.std.proofs.lemmas.List.{drop_all, drop-append-le, take-append-le}
use Rattle.std.proofs.lemmas.List.{get_or-set_same, get_or-set_other, length-set, get_or-take}
use Rattle.std.proofs.lemmas.List.{length-take-le, take-append-drop, take-map, drop-map}
use Rattle.std.proofs.lemmas.List.Elements.{filter-append}
use Rattle.jtypes.proofs.Equality.{same_bool, true_false}
use Rattle.jtypes.proofs.Levels.{lt_or_le}
use Rattle.j_names.specs.Indexed.{has_number, IsBehindLast, IsChained, IsPassed}
use Rattle.j_names.specs.declared.link.Link.{Link}

differ : (a b : ℕ) → (a ≡ b → ⊥) → nat_eq a b ≡ false
differ a b h = same_bool (nat_eq a b) false (λ k. absurd (h (eqb-true a b k))) (λ k. true_false (sym k))

left_nil : {X : Type 0} (xs ys : List X) → xs ++ ys ≡ [] → xs ≡ []
left_nil [] ys h = refl
left_nil (x ∷ xs) ys h = cc

take_silent : {X : Type 0} (p : X → Bool) (e : ℕ) (xs : List X) → filter p xs ≡ [] → filter p (take e xs) ≡ []
take_silent p e xs h =
    left_nil (filter p (take e xs)) (filter p (drop e xs))
    (sym (ap (filter p) (sym (take-append-drop e xs)) ∙ filter-append p (take e xs) (drop e xs)) ∙ h)

front_silent : {X : Type 0} (p : X → Bool) (b e : ℕ) (xs : List X) → filter p (drop b xs) ≡ []
    → filter p (drop b (take e xs)) ≡ []
front_silent p zero e xs h = take_silent p e xs h
front_silent p (suc b) zero xs h = refl
front_silent p (suc b) (suc e) [] h = refl
front_silent p (suc b) (suc e) (x ∷ xs) h = front_silent p b e xs h

take_take : {X : Type 0} (e j : ℕ) (xs : List X) → e ≤ j → take e (take j xs) ≡ take e xs
take_take zero j xs le = refl
take_take (suc e) zero xs le = absurd (omega (arith, le))
take_take (suc e) (suc j) [] le = refl
take_take (suc e) (suc j) (x ∷ xs) le = ap (λ ys. x ∷ ys) (take_take e j xs (omega (arith, le)))

-- what stands within a list is there by any default
pub at_any : {X : Type 0} (xs : List X) (i : ℕ) (d e : X) → i < length xs → get_or xs i d ≡ get_or xs i e
at_any [] i d e lt = absurd (omega (arith, lt))
at_any (x ∷ xs) zero d e lt = refl
at_any (x ∷ xs) (suc i) d e lt = at_any xs i d e (omega (arith, lt))

none_of : (n : ℕ) (ls : List Link)
    → ((at : ℕ) (l : Link) → at < length ls → l ≡ get_or ls at l → l.number ≡ n → ⊥)
    → filter (has_number n) ls ≡ []
none_of n [] h = refl
none_of n (l ∷ ls) h =
    rw (differ l.number n (h 0 l (omega arith) refl))
    (none_of n ls (λ at m lt is. h (suc at) m (omega (arith, lt)) is))

pub nothing_behind : (n : ℕ) (ls : List Link)
    → ((at : ℕ) (l : Link) → at < length ls → l ≡ get_or ls at l → l.number ≡ n → ⊥) → IsBehindLast n ls 0
nothing_behind n ls h = record {
  within = omega arith;
  silent = none_of n ls h;
  there = λ at l e is. absurd (omega (arith, e));
}

module _ (ls : List Link) (l : Link) where
  longer : length (ls ++ l ∷ []) ≡ length ls + 1
  longer = length-append ls (l ∷ [])

  behind_here : IsBehindLast l.number (ls ++ l ∷ []) (length ls + 1)
  behind_here = record {
    within = omega (arith, longer);
    silent = ap (filter (has_number l.number)) (drop_all (length ls + 1) (ls ++ l ∷ []) (omega (arith, longer)));
    there = λ at m e is. ap (λ x. x.number)
        (is ∙ ap (λ i. get_or (ls ++ l ∷ []) i m) (omega (arith, e)) ∙ get_or-append_seam ls l [] m);
  }

  module _ (n place : ℕ) (other : l.number ≡ n → ⊥) where
    split : place ≤ length ls → filter (has_number n) (drop place (ls ++ l ∷ [])) ≡ filter (has_number n)
        (drop place ls) ++ []
    split le =
        ap (filter (has_number n)) (drop-append-le place ls (l ∷ []) le)
        ∙ filter-append (has_number n) (drop place ls) (l ∷ [])
        ∙ ap (λ b. filter (has_number n) (drop place ls) ++ (if b then l ∷ [] else [])) (differ l.number n other)

    behind_more : IsBehindLast n ls place → IsBehindLast n (ls ++ l ∷ []) place
    behind_more b = record {
      within = omega (arith, longer, b.within);
      silent = split b.within ∙ ap (λ xs. xs ++ []) b.silent;
      there = λ at m e is. b.there at m e (is ∙ get_or-append ls (l ∷ []) m at (omega (arith, e, b.within)));
    }

    behind_less : IsBehindLast n (ls ++ l ∷ []) place → IsBehindLast n ls place
    behind_less b = record {
      within = le;
      silent = left_nil (filter (has_number n) (drop place ls)) [] (sym (split le) ∙ b.silent);
      there = λ at m e is. b.there at m e (is ∙ sym (get_or-append ls (l ∷ []) m at (omega (arith, e, le))));
    }
      where
        le : place ≤ length ls
        le = elim (lt_or_le (length ls) place) [
          | inl k ↦ absurd (other (b.there (length ls) l (omega (arith, k, b.within, longer))
              (sym (get_or-append_seam ls l [] l))))
          | inr k ↦ k
        ]

same_or_not : (a b : ℕ) → (a ≡ b) ⊎ (a ≡ b → ⊥)
same_or_not zero zero = inl refl
same_or_not zero (suc b) = inr (λ e. omega (arith, e))
same_or_not (suc a) zero = inr (λ e. omega (arith, e))
same_or_not (suc a) (suc b) =
    elim (same_or_not a b) [ inl e ↦ inl (ap suc e) | inr h ↦ inr (λ e. h (omega (arith, e))) ]

-- a head for one number more
pub chained_zero : (ls : List Link) (hs : List ℕ) → IsChained ls hs → IsChained ls (hs ++ 0 ∷ [])
chained_zero ls hs c = record {
  of_heads = λ n place lt is. elim (lt_or_le n (length hs)) [
    | inl k ↦ c.of_heads n place k (is ∙ get_or-append hs (0 ∷ []) place n k)
    | inr k ↦
        subst (λ r. IsBehindLast n ls r)
        (sym (is ∙ ap (λ i. get_or (hs ++ 0 ∷ []) i place) (omega (arith, k, lt, length-append hs (0 ∷ [])))
        ∙ get_or-append_seam hs 0 [] place))
        (nothing_behind n ls (λ at l lt2 is2 same. omega (arith, c.of_numbers at l lt2 is2, same, k)))
  ];
  of_numbers = λ at l lt is. omega (arith, c.of_numbers at l lt is, length-append hs (0 ∷ []));
  of_links = c.of_links;
}

-- one link more
module _ (ls : List Link) (hs : List ℕ) (c : IsChained ls hs) (l : Link) (known : l.number < length hs)
    (head : l.before ≡ get_or hs l.number l.before) where
  pub chained_put : IsChained (ls ++ l ∷ []) (set hs l.number (length ls + 1))
  chained_put = record {
    of_heads = λ n place lt is. elim (same_or_not n l.number) [
      | inl e ↦
          subst (λ r. IsBehindLast n (ls ++ l ∷ []) r)
          (sym (is ∙ ap (λ i. get_or (set hs l.number (length ls + 1)) i place) e
          ∙ get_or-set_same hs l.number (length ls + 1) place known))
          (subst (λ k. IsBehindLast k (ls ++ l ∷ []) (length ls + 1)) (sym e) (behind_here ls l))
      | inr ne ↦
          behind_more ls l n place (λ e. ne (sym e))
          (c.of_heads n place (omega (arith, lt, length-set hs l.number (length ls + 1)))
          (is ∙ get_or-set_other hs l.number n (length ls + 1) place ne))
    ];
    of_numbers = λ at m lt is. omega (arith, length-set hs l.number (length ls + 1), number_of at m lt is);
    of_links = λ at m lt is. elim (lt_or_le at (length ls)) [
      | inl k ↦
          subst (λ xs. IsBehindLast m.number xs m.before)
          (sym (take-append-le at ls (l ∷ []) (omega (arith, k))))
          (c.of_links at m k (is ∙ get_or-append ls (l ∷ []) m at k))
      | inr k ↦
          subst (λ x. IsBehindLast x.number (take at (ls ++ l ∷ [])) x.before) (sym (it_is at m k lt is))
          (subst (λ xs. IsBehindLast l.number xs l.before)
          (sym (ap (λ i. take i (ls ++ l ∷ [])) (at_end at k lt) ∙ take-append_seam ls (l ∷ [])))
          (c.of_heads l.number l.before known head))
    ];
  }
    where
      at_end : (at : ℕ) → length ls ≤ at → at < length (ls ++ l ∷ []) → at ≡ length ls
      at_end at k lt = omega (arith, k, lt, longer ls l)

      it_is : (at : ℕ) (m : Link) → length ls ≤ at → at < length (ls ++ l ∷ []) → m ≡ get_or (ls ++ l ∷ []) at m
          → m ≡ l
      it_is at m k lt is =
          is ∙ ap (λ i. get_or (ls ++ l ∷ []) i m) (omega (arith, k, lt, longer ls l)) ∙ get_or-append_seam ls l [] m

      number_of : (at : ℕ) (m : Link) → at < length (ls ++ l ∷ []) → m ≡ get_or (ls ++ l ∷ []) at m
          → m.number < length hs
      number_of at m lt is = elim (lt_or_le at (length ls)) [
        | inl k ↦ c.of_numbers at m k (is ∙ get_or-append ls (l ∷ []) m at k)
        | inr k ↦
            subst (λ x. x.number < length hs)
            (sym (is ∙ ap (λ i. get_or (ls ++ l ∷ []) i m) (omega (arith, k, lt, longer ls l))
            ∙ get_or-append_seam ls l [] m))
            known
      ]

-- the last link less
module _ (ls : List Link) (hs : List ℕ) (l : Link) (c : IsChained (ls ++ l ∷ []) hs) where
  last_there : length ls < length (ls ++ l ∷ [])
  last_there = omega (arith, longer ls l)

  pub last_known : l.number < length hs
  last_known = c.of_numbers (length ls) l last_there (sym (get_or-append_seam ls l [] l))

  of_last : IsBehindLast l.number ls l.before
  of_last =
      subst (λ xs. IsBehindLast l.number xs l.before) (take-append_seam ls (l ∷ []))
      (c.of_links (length ls) l last_there (sym (get_or-append_seam ls l [] l)))

  pub chained_off : IsChained ls (set hs l.number l.before)
  chained_off = record {
    of_heads = λ n place lt is. elim (same_or_not n l.number) [
      | inl e ↦
          subst (λ r. IsBehindLast n ls r)
          (sym (is ∙ ap (λ i. get_or (set hs l.number l.before) i place) e
          ∙ get_or-set_same hs l.number l.before place last_known))
          (subst (λ k. IsBehindLast k ls l.before) (sym e) of_last)
      | inr ne ↦
          behind_less ls l n place (λ e. ne (sym e))
          (c.of_heads n place (omega (arith, lt, length-set hs l.number l.before))
          (is ∙ get_or-set_other hs l.number n l.before place ne))
    ];
    of_numbers = λ at m lt is.
        omega (
          arith,
          length-set hs l.number l.before,
          c.of_numbers at m (omega (arith, lt, longer ls l))
              (is ∙ sym (get_or-append ls (l ∷ []) m at lt)),
        );
    of_links = λ at m lt is.
        subst (λ xs. IsBehindLast m.number xs m.before) (take-append-le at ls (l ∷ []) (omega (arith, lt)))
        (c.of_links at m (omega (arith, lt, longer ls l)) (is ∙ sym (get_or-append ls (l ∷ []) m at lt)));
  }

-- the way back from the last link of a number
pub from_head : (n end : ℕ) (ls : List Link) (place : ℕ) → IsBehindLast n ls place → IsPassed n end ls place
from_head n end ls place b = record {
  within = b.within;
  silent = front_silent (has_number n) place end ls b.silent;
  there = b.there;
}

module _ (n end : ℕ) (ls : List Link) (hs : List ℕ) (c : IsChained ls hs) (place : ℕ) (p : IsPassed n end ls place)
    (past : end < place) (l : Link) (is : l ≡ get_or ls (place - 1) l) where
  its_number : l.number ≡ n
  its_number = p.there (place - 1) l (omega (arith, past)) is

  before_it : IsBehindLast n (take (place - 1) ls) l.before
  before_it =
      subst (λ k. IsBehindLast k (take (place - 1) ls) l.before) its_number
      (c.of_links (place - 1) l (omega (arith, past, p.within)) is)

  short : length (take (place - 1) ls) ≡ place - 1
  short = length-take-le (place - 1) ls (omega (arith, p.within))

  pub goes_down : l.before < place
  goes_down = omega (arith, past, before_it.within, short)

  pub one_back : IsPassed n end ls l.before
  one_back = record {
    within = omega (arith, goes_down, p.within);
    silent =
        ap (λ xs. filter (has_number n) (drop l.before xs)) (sym (take_take end (place - 1) ls (omega (arith, past))))
        ∙ front_silent (has_number n) l.before end (take (place - 1) ls) before_it.silent;
    there = λ at m e at_is.
        before_it.there at m e
        (at_is ∙ sym (get_or-take (place - 1) ls at m (omega (arith, e, before_it.within, short))));
  }

-- the same of the numbers alone
numbers_by : (n : ℕ) (l : Link) (fs : List Link) (is : List ℕ) (b : Bool) → (fs ≡ [] → is ≡ [])
    → (if b then l ∷ fs else fs) ≡ [] → (if b then l.number ∷ is else is) ≡ []
numbers_by n l fs is true f h = cc
numbers_by n l fs is false f h = f h

silent_numbers : (n : ℕ) (ls : List Link) → filter (has_number n) ls ≡ []
    → filter (λ i. nat_eq i n) (map (λ l. l.number) ls) ≡ []
silent_numbers n [] h = refl
silent_numbers n (l ∷ ls) h =
    numbers_by n l (filter (has_number n) ls) (filter (λ i. nat_eq i n) (map (λ m. m.number) ls)) (nat_eq l.number n)
    (silent_numbers n ls) h

pub passed_numbers : (n end : ℕ) (ls : List Link) (place : ℕ) → IsPassed n end ls place
    → filter (λ i. nat_eq i n) (drop place (take end (map (λ l. l.number) ls))) ≡ []
passed_numbers n end ls place p =
    ap (λ xs. filter (λ i. nat_eq i n) (drop place xs)) (take-map (λ l. l.number) end ls)
    ∙ ap (filter (λ i. nat_eq i n)) (drop-map (λ l. l.number) place (take end ls))
    ∙ silent_numbers n (drop place (take end ls)) p.silent
