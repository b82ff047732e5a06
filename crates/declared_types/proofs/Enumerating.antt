-- A list whose items are numbered, and one item more.
use Rattle.std.proofs.Common.{◌≡◌, ◌∙◌, sym, ap, ℕ, List, [], ◌∷◌, ◌++◌, ◌+◌, ◌<◌, length, take, get_or, map, arith}
use Rattle.std.proofs.lemmas.List.{map-append, length-take-le}
use Rattle.std.specs.List.{enumerate_from}
use Rattle.declared_types.proofs.Loops.{one_more}

enumerate-append : {A : Type 0} (n : ℕ) (xs : List A) (x : A)
    → enumerate_from n (xs ++ x ∷ []) ≡ enumerate_from n xs ++ (n + length xs, x) ∷ []
enumerate-append n [] x = ap (λ (k : ℕ). (k, x) ∷ []) (omega arith)
enumerate-append n (y ∷ xs) x =
    ap (λ ps. (n, y) ∷ ps)
    (enumerate-append (n + 1) xs x ∙ ap (λ (k : ℕ). enumerate_from (n + 1) xs ++ (k, x) ∷ []) (omega arith))

pub numbered_more : {A B : Type 0} (f : ℕ × A → B) (xs : List A) (i : ℕ) (x : A) → i < length xs
    → x ≡ get_or xs i x → (y : B) → y ≡ f (i, x)
    → map f (enumerate_from 0 (take i xs)) ++ y ∷ [] ≡ map f (enumerate_from 0 (take (i + 1) xs))
numbered_more f xs i x lt is y e =
    let before = enumerate_from 0 (take i xs) in
    let place : i ≡ 0 + length (take i xs) = omega (arith, length-take-le i xs (omega (arith, lt))) in
    ap (λ z. map f before ++ z ∷ []) e
    ∙ sym (map-append f before ((i, x) ∷ []))
    ∙ ap (map f)
    (ap (λ (k : ℕ). before ++ (k, x) ∷ []) place
    ∙ sym (enumerate-append 0 (take i xs) x)
    ∙ ap (enumerate_from 0) (sym (one_more xs i x lt is)))
