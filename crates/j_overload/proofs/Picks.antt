-- Candidates picked by their positions.
use Rattle.std.proofs.Common.{◌≡◌, ◌∙◌, sym, ap, subst, refl, ℕ, zero, suc, ◌+◌, ◌-◌, ◌<◌, ◌≤◌, List, [], ◌∷◌, ◌++◌, length, take, drop, get_or, true, Some, None, Option, slice_get, arith, add-one, All}
use Rattle.std.specs.List.{filter_map, enumerate_from}
use Rattle.std.proofs.Math.Seq.{take-suc, drop-cons}
use Rattle.std.proofs.lemmas.List.FromFn.{length-enumerate_from}
use Rattle.std.proofs.lemmas.List.Elements.{filter_map-append, All-get_or, All-append}
use Rattle.jtypes.specs.declared.signatures.MethodSig.{MethodSig}
use Rattle.j_overload.specs.Parameters.{takes_number}
use Rattle.j_overload.specs.Picked.{candidates_at, with_position, TakesAt}
use Rattle.j_overload.specs.declared.phase.Phase.{Phase}

pub candidates_at-none : (cs : List MethodSig) → candidates_at cs [] ≡ []
unfolding candidates_at
candidates_at-none cs = refl

pub candidates_at-append : (cs : List MethodSig) (is js : List ℕ) → candidates_at cs (is ++ js) ≡ candidates_at cs is ++ candidates_at cs js
unfolding candidates_at
candidates_at-append cs is js = filter_map-append (λ i. with_position i (slice_get cs i)) is js

pub candidates_at-one : (cs : List MethodSig) (i : ℕ) (m : MethodSig) → slice_get cs i ≡ Some m → candidates_at cs (i ∷ []) ≡ (i, m) ∷ []
unfolding candidates_at
candidates_at-one cs i m e = ap (λ o. filter_map (λ k. with_position i o) (i ∷ [])) e

-- one more position of a list of them
pub picked_more : (cs : List MethodSig) (is : List ℕ) (k : ℕ) (m : MethodSig) → k < length is → slice_get cs (get_or is k 0) ≡ Some m → candidates_at cs (take (k + 1) is) ≡ candidates_at cs (take k is) ++ (get_or is k 0, m) ∷ []
picked_more cs is k m lt e = rw (add-one, take-suc is k 0 lt) (candidates_at-append cs (take k is) (get_or is k 0 ∷ []) ∙ ap (λ ms. candidates_at cs (take k is) ++ ms) (candidates_at-one cs (get_or is k 0) m e))

-- one position at the end
pub candidates_at-push : (cs : List MethodSig) (is : List ℕ) (i : ℕ) (m : MethodSig) → slice_get cs i ≡ Some m → candidates_at cs (is ++ i ∷ []) ≡ candidates_at cs is ++ (i, m) ∷ []
candidates_at-push cs is i m e = candidates_at-append cs is (i ∷ []) ∙ ap (λ ms. candidates_at cs is ++ ms) (candidates_at-one cs i m e)

pub candidates_at-cons : (cs : List MethodSig) (i : ℕ) (is : List ℕ) (m : MethodSig) → slice_get cs i ≡ Some m → candidates_at cs (i ∷ is) ≡ (i, m) ∷ candidates_at cs is
candidates_at-cons cs i is m e = candidates_at-append cs (i ∷ []) is ∙ ap (λ ms. ms ++ candidates_at cs is) (candidates_at-one cs i m e)

-- what is left from a position of a list of them
pub picked_rest : (cs : List MethodSig) (is : List ℕ) (k : ℕ) (m : MethodSig) → k < length is → slice_get cs (get_or is k 0) ≡ Some m → candidates_at cs (drop k is) ≡ (get_or is k 0, m) ∷ candidates_at cs (drop (k + 1) is)
picked_rest cs is k m lt e = rw (add-one, drop-cons is k 0 lt) (candidates_at-cons cs (get_or is k 0) (drop (suc k) is) m e)

some_within : {A : Type 0} (xs : List A) (i : ℕ) (x : A) → slice_get xs i ≡ Some x → i < length xs
some_within [] i x e = absurd (let h : None ≡ Some x = e in cc)
some_within (y ∷ xs) zero x e = omega arith
some_within (y ∷ xs) (suc i) x e = let h = some_within xs i x e in omega arith

pub taken_within : (cs : List MethodSig) (phase : Phase) (k i : ℕ) → TakesAt cs phase k i → i < length cs
taken_within cs phase k i (m, e, t) = some_within cs i m e

pub all_within : (cs : List MethodSig) (phase : Phase) (k : ℕ) (is : List ℕ) → All (TakesAt cs phase k) is → All (λ i. i < length cs) is
all_within cs phase k is h j d lt = taken_within cs phase k (get_or is j d) (h j d lt)

pub within_at : (cs : List MethodSig) (is : List ℕ) (j : ℕ) → All (λ i. i < length cs) is → j < length is → get_or is j 0 < length cs
within_at cs is j h lt = h j 0 lt

enumerate_next : (cs : List MethodSig) (n i : ℕ) (m : MethodSig) → slice_get cs i ≡ Some m → take (suc i) (enumerate_from n cs) ≡ take i (enumerate_from n cs) ++ (n + i, m) ∷ []
enumerate_next [] n i m e = absurd (let h : None ≡ Some m = e in cc)
enumerate_next (x ∷ cs) n zero m e = let f : x ≡ m = cc in let g : n ≡ n + 0 = omega arith in λ j. (g j, f j) ∷ []
enumerate_next (x ∷ cs) n (suc i) m e = ap (λ ms. (n, x) ∷ ms) (subst (λ k. take (suc i) (enumerate_from (n + 1) cs) ≡ take i (enumerate_from (n + 1) cs) ++ (k, m) ∷ []) (omega arith) (enumerate_next cs (n + 1) i m e))

pub enumerate_more : (cs : List MethodSig) (i : ℕ) (m : MethodSig) → slice_get cs i ≡ Some m → take (i + 1) (enumerate_from 0 cs) ≡ take i (enumerate_from 0 cs) ++ (i, m) ∷ []
enumerate_more cs i m e = rw add-one (subst (λ k. take (suc i) (enumerate_from 0 cs) ≡ take i (enumerate_from 0 cs) ++ (k, m) ∷ []) (omega arith) (enumerate_next cs 0 i m e))

-- what stands at one of the positions
pub taken_at : (cs : List MethodSig) (phase : Phase) (k : ℕ) (is : List ℕ) (j : ℕ) → All (TakesAt cs phase k) is → j < length is → TakesAt cs phase k (get_or is j 0)
taken_at cs phase k is j h lt = All-get_or (TakesAt cs phase k) is j 0 lt h

same_some : {A : Type 0} (o : Option A) (x y : A) → o ≡ Some x → o ≡ Some y → x ≡ y
same_some o x y e f = cc

pub taken_takes : (cs : List MethodSig) (phase : Phase) (k i : ℕ) (m : MethodSig) → TakesAt cs phase k i → slice_get cs i ≡ Some m → takes_number phase m k ≡ true
taken_takes cs phase k i m (n, e, t) f = subst (λ x. takes_number phase x k ≡ true) (same_some (slice_get cs i) n m e f) t

pub all_push : (cs : List MethodSig) (phase : Phase) (k : ℕ) (is : List ℕ) (i : ℕ) → All (TakesAt cs phase k) is → TakesAt cs phase k i → All (TakesAt cs phase k) (is ++ i ∷ [])
all_push cs phase k is i h t = All-append (TakesAt cs phase k) is (i ∷ []) h (one t)
  where
    one : TakesAt cs phase k i → All (TakesAt cs phase k) (i ∷ [])
    one t j d lt = at_first j lt
      where
        at_first : (n : ℕ) → n < 1 → TakesAt cs phase k (get_or (i ∷ []) n d)
        at_first zero l = t
        at_first (suc n) l = absurd (omega arith)

pub drop_all : (is : List ℕ) (n : ℕ) → length is ≤ n → drop n is ≡ []
drop_all [] zero h = refl
drop_all [] (suc n) h = refl
drop_all (i ∷ is) zero h = absurd (omega arith)
drop_all (i ∷ is) (suc n) h = drop_all is n (omega arith)

pub take_all : {A : Type 0} (xs : List A) (n : ℕ) → length xs ≤ n → take n xs ≡ xs
take_all [] zero h = refl
take_all [] (suc n) h = refl
take_all (x ∷ xs) zero h = absurd (omega arith)
take_all (x ∷ xs) (suc n) h = ap (λ ys. x ∷ ys) (take_all xs n (omega arith))

pub enumerate_all : (cs : List MethodSig) (n : ℕ) → length cs ≤ n → take n (enumerate_from 0 cs) ≡ enumerate_from 0 cs
enumerate_all cs n h = take_all (enumerate_from 0 cs) n (rw (length-enumerate_from 0 cs) h)

pub no_positions : (is : List ℕ) → length is < 1 → is ≡ []
no_positions [] h = refl
no_positions (i ∷ is) h = absurd (omega arith)

pub picks_some : (cs : List MethodSig) (phase : Phase) (k : ℕ) (is : List ℕ) → (is ≡ [] → ⊥) → All (TakesAt cs phase k) is → candidates_at cs is ≡ [] → ⊥
picks_some cs phase k [] h t e = h refl
picks_some cs phase k (i ∷ is) h t e = by_first (t 0 i (omega arith))
  where
    by_first : TakesAt cs phase k i → ⊥
    by_first (m, f, l) = let g : (i, m) ∷ candidates_at cs is ≡ [] = sym (candidates_at-cons cs i is m f) ∙ e in cc

pub all_none : (cs : List MethodSig) (phase : Phase) (k : ℕ) → All (TakesAt cs phase k) []
all_none cs phase k j d lt = absurd (omega arith)

rest_length : (is : List ℕ) → length (drop 1 is) ≤ length is - 1
rest_length [] = omega arith
rest_length (i ∷ is) = omega arith

pub rest_is : (is : List ℕ) → take (length is - 1) (drop 1 is) ≡ drop 1 is
rest_is is = take_all (drop 1 is) (length is - 1) (rest_length is)
