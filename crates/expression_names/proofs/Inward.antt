-- Loops from the last of a list to the first.
use Rattle.std.proofs.Common.{◌≡◌, ℕ, List, [], ◌∷◌, ◌++◌, Some, ◌<◌, ◌≤◌, ◌-◌, suc, take, length, get_or, sym, ap}
use Rattle.std.proofs.Common.{◌∙◌, arith}
use Rattle.std.specs.Prelude.{reverse}
use Rattle.std.proofs.Math.Seq.{take-suc}
use Rattle.std.proofs.lemmas.List.{reverse-append}
use Rattle.j_names.proofs.Visits.{suc_of}
use Rattle.j_names.specs.Names.{or_else}
use Rattle.j_names.specs.declared.context.Frame.{Frame}
use Rattle.expression_names.specs.Bodies.{body_of, first_body}
use Rattle.expression_names.specs.declared.bodies.Whose.{Whose}

-- the first so many items, backwards
pub last_first : {X : Type 0} (xs : List X) (i j : ℕ) (x : X) → i ≡ suc j → j < length xs → x ≡ get_or xs j x
    → reverse (take i xs) ≡ x ∷ reverse (take j xs)
last_first xs i j x e lt is =
    ap (λ n. reverse (take n xs)) e
    ∙ ap reverse (take-suc xs j x lt)
    ∙ ap (λ y. reverse (take j xs ++ y ∷ [])) (sym is)
    ∙ reverse-append (take j xs) (x ∷ [])

-- a look for a body that has come to one
module _ (around : Whose) (xs : List Frame) (i : ℕ) (h : first_body around (reverse (take i xs)) ≡ first_body around (reverse xs)) where
  pub is_first : (x : Frame) (w : Whose) → 0 < i → i ≤ length xs → x ≡ get_or xs (i - 1) x
      → Some w ≡ body_of x → w ≡ first_body around (reverse xs)
  is_first x w pos le is e =
      ap (or_else (first_body around (reverse (take (i - 1) xs)))) e
      ∙ sym (ap (first_body around) (last_first xs i (i - 1) x (suc_of i pos) (omega (arith, le, pos)) is))
      ∙ h

  -- and one that has found none
  pub is_around : i ≡ 0 → around ≡ first_body around (reverse xs)
  is_around e = sym (ap (λ n. first_body around (reverse (take n xs))) e) ∙ h
