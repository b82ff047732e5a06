-- Where texts are wrong that a byte parts in two.
use Rattle.std.proofs.Common.{◌≡◌, ℕ, ◌+◌, true, false, not, ◌||◌, List, [], ◌∷◌, ◌++◌, length}
use Rattle.std.proofs.Common.{Some, None, refl, sym, ap, subst, ◌∙◌, arith, append_assoc, append-nil, length-append}
use Rattle.std.specs.List.{list_all}
use Rattle.std.proofs.lemmas.Bool.{eq-eqb}
use Rattle.rw_base.specs.Fronts.{Form}
use Rattle.method_pattern.specs.Texts.{IsWrongAt}
use Rattle.method_pattern.specs.Reading.{Ends, outside}
use Rattle.method_pattern.proofs.Places.{first, lifted, stuck, cut, widened}

-- a text of T, a byte and a text of R
pub record IsParted {X Y : Type 0} (T : Form X) (R : Form Y) (d : ℕ) (s : List ℕ) : Type 0 where
  pub left : X
  pub right : Y
  pub front : List ℕ
  pub behind : List ℕ
  pub is : s ≡ front ++ d ∷ behind
  pub left_is : T left front
  pub right_is : R right behind

module _ {X Y Z : Type 0} (T : Form X) (R : Form Y) (W : Form Z) (d : ℕ)
    (runs : (x : X) (o : List ℕ) → T x o → list_all (outside (d ∷ [])) o ≡ true)
    (split : (z : Z) (s : List ℕ) → W z s → IsParted T R d s)
    (up : (x : X) (y : Y) (o r : List ℕ) → T x o → R y r → (z : Z) × W z (o ++ d ∷ r))
    (some_right : Y) (right_text : List ℕ) (right_form : R some_right right_text) where
  delimiter_ends : (r : List ℕ) → Ends (outside (d ∷ [])) (d ∷ r)
  delimiter_ends r = ap (λ v. not (v || false)) (eq-eqb d d refl)

  pub left_wrong : (o tail : List ℕ) (m : ℕ) → list_all (outside (d ∷ [])) o ≡ true → Ends (outside (d ∷ [])) tail
      → IsWrongAt T o m → IsWrongAt W (o ++ tail) m
  left_wrong o tail m run ends w =
      widened T W (outside (d ∷ [])) runs
      (λ z s h. let p = split z s h in record {
        value = p.left;
        front = p.front;
        behind = d ∷ p.behind;
        is = p.is;
        form = p.left_is;
        ends = delimiter_ends p.behind;
      })
      (λ x t h. let z = up x some_right t right_text h right_form in (z.0, (d ∷ right_text, z.1)))
      o tail run ends m w

  -- behind the left text the byte is missing
  pub missing : (x : X) (o : List ℕ) → T x o → IsWrongAt W o (length o)
  missing x o h =
      let z = up x some_right o right_text h right_form in
      subst (λ t. IsWrongAt W t (length o)) (append-nil o)
      (stuck W o [] (length o) refl z.0 (d ∷ right_text) z.1 (λ y rest e k.
      let p = split y (o ++ rest) k in none rest p e))
    where
      none : (rest : List ℕ) → IsParted T R d (o ++ rest) → first rest ≡ first [] → ⊥
      none [] p e =
          let same = cut (outside (d ∷ [])) o p.front [] (d ∷ p.behind) (runs x o h) (runs p.left p.front p.left_is) tt
          (delimiter_ends p.behind) p.is in
          let f : [] ≡ d ∷ p.behind = same.1 in cc
      none (b ∷ rest) p e = let f : Some b ≡ None = e in cc

  pub right_wrong : (x : X) (o r : List ℕ) (n : ℕ) → T x o → IsWrongAt R r n → IsWrongAt W (o ++ d ∷ r) (length o + 1 + n)
  right_wrong x o r n h w =
      subst (λ t. IsWrongAt W t (length o + 1 + n)) (append_assoc o (d ∷ []) r)
      (lifted R W (o ++ d ∷ []) r
      (λ y rest k. let z = up x y o rest h k in (z.0, subst (W z.0) (sym (append_assoc o (d ∷ []) rest)) z.1))
      (λ y rest e k.
      let p = split y ((o ++ d ∷ []) ++ rest) k in
      let same = cut (outside (d ∷ [])) o p.front (d ∷ rest) (d ∷ p.behind) (runs x o h) (runs p.left p.front p.left_is)
      (delimiter_ends rest) (delimiter_ends p.behind) (sym (append_assoc o (d ∷ []) rest) ∙ p.is) in
      let tails : p.behind ≡ rest = let f : d ∷ rest ≡ d ∷ p.behind = same.1 in cc in
      (p.right, subst (R p.right) tails p.right_is))
      (length o + 1) n (omega (arith, length-append o (d ∷ []))) w)
