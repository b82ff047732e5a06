-- The types that arguments are tested against, by their positions.
use Rattle.std.proofs.Common.{◌≡◌, sym, ap, subst, refl, ℕ, zero, suc, ◌+◌, ◌<◌, ◌≤◌, List, [], ◌∷◌, ◌++◌, length, take, Bool, true, false, ◌&&◌, nat_eq, nat_le, nat_lt, Some, None, slice_get, replicate, arith, add-one, if◌then◌else◌, eqb-true, ◌⊎◌, inl, inr, get_or}
use Rattle.std.specs.List.{zip}
use Rattle.std.proofs.lemmas.Option.{slice_get_read}
use Rattle.std.proofs.lemmas.Bool.{ltb-true}
use Rattle.std.proofs.lemmas.Bool.Decides.{eqb_tells}
use Rattle.jtypes.specs.Arrays.{ArrayOf, array_is}
use Rattle.jtypes.specs.declared.signatures.MethodSig.{MethodSig}
use Rattle.jtypes.specs.declared.types.JType.{JType}
use Rattle.jtypes.specs.declared.types.JType.TheViews.{Array}
use Rattle.j_overload.specs.Parameters.{element_type, spread, parameter_types, takes_number, HasTypeAt, compared_count}
use Rattle.j_overload.specs.declared.phase.Phase.{Phase}
use Rattle.j_overload.specs.declared.phase.Phase.TheVariants.{Strict, Loose, Variable}

-- what is no array stands for itself
pub not_array : (t : JType) → ((e : JType) → t ≡ Array e → ⊥) → t ≡ element_type t
not_array (ArrayOf e) h = absurd (h e (sym (array_is e)))
not_array t h = refl

replicate_at : (e : JType) (k i : ℕ) → i < k → slice_get (replicate k e) i ≡ Some e
replicate_at e zero i lt = absurd (omega arith)
replicate_at e (suc k) zero lt = refl
replicate_at e (suc k) (suc i) lt = replicate_at e k i (omega arith)

pub spread_front : (ps : List JType) (k i : ℕ) → i + 1 < length ps → i < k → slice_get (spread ps k) i ≡ slice_get ps i
spread_front [] k i within lt = absurd (omega arith)
spread_front (t ∷ []) k i within lt = absurd (omega arith)
spread_front (t ∷ u ∷ us) zero i within lt = absurd (omega arith)
spread_front (t ∷ u ∷ us) (suc k) zero within lt = refl
spread_front (t ∷ u ∷ us) (suc k) (suc i) within lt = spread_front (u ∷ us) k i (omega arith) (omega arith)

pub spread_end : (ps : List JType) (k i last : ℕ) (t : JType) → slice_get ps last ≡ Some t → last + 1 ≡ length ps → last ≤ i → i < k → slice_get (spread ps k) i ≡ Some (element_type t)
spread_end [] k i last t at e le lt = absurd (omega arith)
spread_end (u ∷ []) k i zero t at e le lt = let same : u ≡ t = cc in subst (λ x. slice_get (replicate k (element_type u)) i ≡ Some (element_type x)) same (replicate_at (element_type u) k i lt)
spread_end (u ∷ []) k i (suc last) t at e le lt = absurd (omega arith)
spread_end (u ∷ v ∷ vs) zero i last t at e le lt = absurd (omega arith)
spread_end (u ∷ v ∷ vs) (suc k) zero zero t at e le lt = absurd (omega arith)
spread_end (u ∷ v ∷ vs) (suc k) zero (suc last) t at e le lt = absurd (omega arith)
spread_end (u ∷ v ∷ vs) (suc k) (suc i) zero t at e le lt = absurd (omega arith)
spread_end (u ∷ v ∷ vs) (suc k) (suc i) (suc last) t at e le lt = spread_end (v ∷ vs) k i last t at (omega arith) (omega arith) (omega arith)

spread_length : (ps : List JType) (k : ℕ) → length (spread ps k) ≤ k
spread_length [] k = omega arith
spread_length (t ∷ []) k = replicate_length k
  where
    replicate_length : (n : ℕ) → length (replicate n (element_type t)) ≤ n
    replicate_length zero = omega arith
    replicate_length (suc n) = let h = replicate_length n in omega arith
spread_length (t ∷ u ∷ us) zero = omega arith
spread_length (t ∷ u ∷ us) (suc k) = let h = spread_length (u ∷ us) k in omega arith

take_zip : {A B : Type 0} (xs : List A) (ys : List B) (i : ℕ) (x : A) (y : B) → slice_get xs i ≡ Some x → slice_get ys i ≡ Some y → take (suc i) (zip xs ys) ≡ take i (zip xs ys) ++ (x, y) ∷ []
take_zip [] ys i x y e f = absurd (let h : None ≡ Some x = e in cc)
take_zip (x' ∷ xs) [] i x y e f = absurd (let h : None ≡ Some y = f in cc)
take_zip (x' ∷ xs) (y' ∷ ys) zero x y e f = let d : x' ≡ x = cc in let g : y' ≡ y = cc in λ j. (d j, g j) ∷ []
take_zip (x' ∷ xs) (y' ∷ ys) (suc i) x y e f = ap (λ zs. (x', y') ∷ zs) (take_zip xs ys i x y e f)

-- one more pair
pub zip_more : {A B : Type 0} (xs : List A) (ys : List B) (i : ℕ) (x : A) (y : B) → slice_get xs i ≡ Some x → slice_get ys i ≡ Some y → take (i + 1) (zip xs ys) ≡ take i (zip xs ys) ++ (x, y) ∷ []
zip_more xs ys i x y e f = rw add-one (take_zip xs ys i x y e f)

pub zip_all : {A B : Type 0} (xs : List A) (ys : List B) (n : ℕ) → length ys ≤ n → take n (zip xs ys) ≡ zip xs ys
zip_all [] ys zero le = refl
zip_all [] ys (suc n) le = refl
zip_all (x ∷ xs) [] zero le = refl
zip_all (x ∷ xs) [] (suc n) le = refl
zip_all (x ∷ xs) (y ∷ ys) zero le = absurd (omega arith)
zip_all (x ∷ xs) (y ∷ ys) (suc n) le = ap (λ zs. (x, y) ∷ zs) (zip_all xs ys n (omega arith))

pub zip_all_first : {A B : Type 0} (xs : List A) (ys : List B) (n : ℕ) → length xs ≤ n → take n (zip xs ys) ≡ zip xs ys
zip_all_first [] ys zero le = refl
zip_all_first [] ys (suc n) le = refl
zip_all_first (x ∷ xs) [] zero le = refl
zip_all_first (x ∷ xs) [] (suc n) le = refl
zip_all_first (x ∷ xs) (y ∷ ys) zero le = absurd (omega arith)
zip_all_first (x ∷ xs) (y ∷ ys) (suc n) le = ap (λ zs. (x, y) ∷ zs) (zip_all_first xs ys n (omega arith))

both_true : (a b : Bool) → (a && b) ≡ true → (a ≡ true) × (b ≡ true)
both_true true b h = (refl, h)
both_true false b h = absurd (let g : false ≡ true = h in cc)

some_last : (a b c : Bool) → (a && (b && c)) ≡ true → b ≡ true
some_last a b c h = (both_true b c ((both_true a (b && c) h).1)).0

pub has_type : (phase : Phase) (m : MethodSig) (k i : ℕ) → takes_number phase m k ≡ true → i < k → HasTypeAt phase m i
has_type Strict m k i h lt = let e : length m.params ≡ k = eqb-true _ _ h in omega arith
has_type Loose m k i h lt = let e : length m.params ≡ k = eqb-true _ _ h in omega arith
has_type Variable m k i h lt = ltb-true 0 (length m.params) (some_last m.varargs (nat_lt 0 (length m.params)) (nat_le (length m.params) (k + 1)) h)

at_most : (t : Bool) (k i : ℕ) → i < (if t then k + 1 else k) → t ≡ false → i < k
at_most t k i lt e = subst (λ v. i < (if v then k + 1 else k)) e lt

below_count : (n k i : ℕ) → n ≡ k → i < (if nat_eq n (k + 1) then k + 1 else k) → i < k
below_count n k i e lt = elim (eqb_tells n (k + 1)) [
  | inl h ↦ absurd (let f : n ≡ k + 1 = h.1 in omega arith)
  | inr h ↦ at_most (nat_eq n (k + 1)) k i lt h.0
]

pub compared_type : (phase : Phase) (m n : MethodSig) (k i : ℕ) → takes_number phase m k ≡ true → takes_number phase n k ≡ true → i < compared_count k n → HasTypeAt phase m i
compared_type Strict m n k i h l lt = has_type Strict m k i h (below_count (length n.params) k i (eqb-true _ _ l) lt)
compared_type Loose m n k i h l lt = has_type Loose m k i h (below_count (length n.params) k i (eqb-true _ _ l) lt)
compared_type Variable m n k i h l lt = ltb-true 0 (length m.params) (some_last m.varargs (nat_lt 0 (length m.params)) (nat_le (length m.params) (k + 1)) h)

at_least : (n k : ℕ) → k ≤ (if nat_eq n (k + 1) then k + 1 else k)
at_least n k = by_test (nat_eq n (k + 1))
  where
    by_test : (t : Bool) → k ≤ (if t then k + 1 else k)
    by_test true = omega arith
    by_test false = omega arith

-- no more types than are compared
pub compared_length : (phase : Phase) (n : MethodSig) (k : ℕ) → takes_number phase n k ≡ true → length (parameter_types phase n (compared_count k n)) ≤ compared_count k n
unfolding parameter_types
compared_length Strict n k h = let e : length n.params ≡ k = eqb-true _ _ h in let l = at_least (length n.params) k in omega arith
compared_length Loose n k h = let e : length n.params ≡ k = eqb-true _ _ h in let l = at_least (length n.params) k in omega arith
compared_length Variable n k h = spread_length n.params (compared_count k n)

pub at_place : {A : Type 0} (ts : List A) (i : ℕ) (t : A) → i < length ts → t ≡ get_or ts i t → slice_get ts i ≡ Some t
at_place ts i t lt e = slice_get_read ts (length ts) i t refl lt e

-- without variable arity the types are the parameters
pub fixed_at : (phase : Phase) (m : MethodSig) (k i : ℕ) (t : JType) → (phase ≡ Strict) ⊎ (phase ≡ Loose) → HasTypeAt phase m i → t ≡ get_or m.params i t → slice_get (parameter_types phase m k) i ≡ Some t
unfolding parameter_types
fixed_at Strict m k i t h lt e = at_place m.params i t lt e
fixed_at Loose m k i t h lt e = at_place m.params i t lt e
fixed_at Variable m k i t (inl h) lt e = absurd (let f : Variable ≡ Strict = h in cc)
fixed_at Variable m k i t (inr h) lt e = absurd (let f : Variable ≡ Loose = h in cc)

pub up_to : (n k i end : ℕ) → end ≡ k → n ≤ k → end ≤ i → n ≤ i
up_to n k i end e h l = omega arith
