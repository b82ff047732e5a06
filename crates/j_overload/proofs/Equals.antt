-- Equal parameters among picked candidates.
use Rattle.std.proofs.Common.{◌≡◌, ◌∙◌, sym, subst, refl, ap, ◌∷◌, ℕ, List, [], ◌+◌, ◌<◌, length, Some, get_or, slice_get, ◌&&◌, drop, true, false, Bool, if◌then◌else◌}
use Rattle.std.specs.List.{list_all}
use Rattle.jtypes.specs.declared.signatures.MethodSig.{MethodSig}
use Rattle.jtypes.specs.declared.types.JType.{JType}
use Rattle.j_overload.specs.Picked.{candidates_at}
use Rattle.j_overload.specs.Rules.{types_eq, first_of_equals}
use Rattle.j_overload.specs.declared.choice.Choice.TheVariants.{Method, Ambiguous}
use Rattle.jtypes.proofs.Equality.{same_bool, true_false, type_eq_true, type_eq_same}
use Rattle.jtypes.specs.Subtype.{type_eq}
use Rattle.j_overload.proofs.Picks.{picked_rest, candidates_at-none}

have_equal : MethodSig → List (ℕ × MethodSig) → Bool
have_equal m cs = list_all (λ d. types_eq m.params d.1.params) cs

next_is : (cs : List MethodSig) (is : List ℕ) (k : ℕ) (m n : MethodSig) → k < length is → slice_get cs (get_or is k 0) ≡ Some n → have_equal m (candidates_at cs (drop k is)) ≡ (types_eq m.params n.params && have_equal m (candidates_at cs (drop (k + 1) is)))
unfolding have_equal
next_is cs is k m n lt e = ap (list_all (λ d. types_eq m.params d.1.params)) (picked_rest cs is k n lt e)

pub equal_next : (cs : List MethodSig) (is : List ℕ) (k : ℕ) (m n : MethodSig) → k < length is → slice_get cs (get_or is k 0) ≡ Some n → types_eq m.params n.params ≡ true → list_all (λ d. types_eq m.params d.1.params) (candidates_at cs (drop k is)) ≡ list_all (λ d. types_eq m.params d.1.params) (candidates_at cs (drop (k + 1) is))
unfolding have_equal
equal_next cs is k m n lt e t = next_is cs is k m n lt e ∙ ap (λ b. b && have_equal m (candidates_at cs (drop (k + 1) is))) t

pub unequal_next : (cs : List MethodSig) (is : List ℕ) (k : ℕ) (m n : MethodSig) → k < length is → slice_get cs (get_or is k 0) ≡ Some n → types_eq m.params n.params ≡ false → list_all (λ d. types_eq m.params d.1.params) (candidates_at cs (drop k is)) ≡ false
unfolding have_equal
unequal_next cs is k m n lt e t = next_is cs is k m n lt e ∙ ap (λ b. b && have_equal m (candidates_at cs (drop (k + 1) is))) t

pub none_first : (cs : List MethodSig) (is : List ℕ) → is ≡ [] → first_of_equals (candidates_at cs is) ≡ Ambiguous
none_first cs is e = ap first_of_equals (ap (candidates_at cs) e ∙ candidates_at-none cs)

pub first_is : (cs : List MethodSig) (is : List ℕ) (m : MethodSig) → 0 < length is → slice_get cs (get_or is 0 0) ≡ Some m → first_of_equals (candidates_at cs is) ≡ (if list_all (λ d. types_eq m.params d.1.params) (candidates_at cs (drop 1 is)) then Method (get_or is 0 0) else Ambiguous)
first_is cs is m lt e = ap first_of_equals (picked_rest cs is 0 m lt e)

abbrev pub params_of : MethodSig → List JType
params_of m = m.params

pub types_eq_true : (ts us : List JType) → types_eq ts us ≡ true → ts ≡ us
types_eq_true [] [] h = refl
types_eq_true [] (u ∷ us) h = true_false (sym h)
types_eq_true (t ∷ ts) [] h = true_false (sym h)
types_eq_true (t ∷ ts) (u ∷ us) h = by_test (type_eq t u) refl (types_eq_true ts us) h
  where
    by_test : (b : Bool) → type_eq t u ≡ b → (types_eq ts us ≡ true → ts ≡ us) → (if b then types_eq ts us else false) ≡ true → t ∷ ts ≡ u ∷ us
    by_test true e f k = let g = type_eq_true t u e in let l = f k in λ i. g i ∷ l i
    by_test false e f k = true_false (sym k)

pub types_eq_same : (ts : List JType) → types_eq ts ts ≡ true
types_eq_same [] = refl
types_eq_same (t ∷ ts) = ap (λ b. if b then types_eq ts ts else false) (type_eq_same t) ∙ types_eq_same ts

-- a test of two lists of types says the same as the definition
pub same_test : {r b : Bool} {ts us vs ws : List JType}
    → ((r ≡ true → ts ≡ us) × (ts ≡ us → r ≡ true)) → ts ≡ vs → us ≡ ws → r ≡ b → types_eq vs ws ≡ b
same_test {r = r} {vs = vs} {ws = ws} t f g h =
    sym (same_bool r (types_eq vs ws)
    (λ k. subst (λ x. types_eq vs x ≡ true) (sym f ∙ t.0 k ∙ g) (types_eq_same vs))
    (λ k. t.1 (f ∙ types_eq_true vs ws k ∙ sym g)))
    ∙ h
