-- A text is one type, and one parameter.
use Rattle.std.proofs.Common.{◌≡◌, ℕ, zero, suc, ◌+◌, ◌*◌, ◌≤◌, inl, inr, ◌⊎◌, Bool, true, false, List, [], ◌∷◌, ◌++◌, length}
use Rattle.std.proofs.Common.{Some, None, refl, sym, ap, subst, ◌∙◌, arith, append_assoc, length-append}
use Rattle.std.specs.Prelude.{codes}
use Rattle.method_pattern.specs.Texts.{AreParts, last, dotted, over_parts, brackets, param_of, IsTyped}
use Rattle.method_pattern.specs.Texts.{IsWrongAt, TypePatternsAreOne}
use Rattle.method_pattern.specs.declared.pattern.NamePiece.{NamePiece}
use Rattle.method_pattern.specs.declared.pattern.NamePiece.TheVariants.{Part, AnyParts}
use Rattle.method_pattern.specs.declared.pattern.ParamPattern.{ParamPattern}
use Rattle.method_pattern.specs.declared.pattern.ParamPattern.TheVariants.{Rest}
use Rattle.method_pattern.specs.declared.type_text.TypeEnd.{TypeEnd}
use Rattle.method_pattern.specs.declared.param_text.WrittenParam.{WrittenParam}
use Rattle.method_pattern.specs.Reading.{IsExactly, IsTypeEnd, IsTypeText, IsBehindPart, ended, dot, gap, varargs_text}
use Rattle.method_pattern.specs.Reading.{IsWrittenParam, IsParamText}
use Rattle.method_pattern.proofs.Places.{first, chosen, cut}
use Rattle.method_pattern.proofs.TypeSteps.{type_end, same_numbers}
use Rattle.method_pattern.proofs.PieceSteps.{inner, inner_part, parted, end_ends, behind_ends, end_dot, no_joint_first, pattern_type}

-- ---- what stands behind a type

brackets_one : (n m : ℕ) (v w : Bool) → brackets n ++ varargs_text v ≡ brackets m ++ varargs_text w → (n ≡ m) × (v ≡ w)
brackets_one zero zero false false e = (refl, refl)
brackets_one zero zero false true e = absurd (cc)
brackets_one zero zero true false e = absurd (cc)
brackets_one zero zero true true e = (refl, refl)
brackets_one zero (suc m) false w e = absurd (cc)
brackets_one zero (suc m) true w e =
    absurd (omega (arith, same_numbers 46 91 (46 ∷ 46 ∷ []) (93 ∷ (brackets m ++ varargs_text w)) e))
brackets_one (suc n) zero v false e = absurd (cc)
brackets_one (suc n) zero v true e =
    absurd (omega (arith, same_numbers 91 46 (93 ∷ (brackets n ++ varargs_text v)) (46 ∷ 46 ∷ []) e))
brackets_one (suc n) (suc m) v w e =
    let rest : brackets n ++ varargs_text v ≡ brackets m ++ varargs_text w = cc in
    let r = brackets_one n m v w rest in
    (ap suc r.0, r.1)

end_one : (of_parameter : Bool) (a b : TypeEnd) (s : List ℕ) → IsTypeEnd of_parameter a s → IsTypeEnd of_parameter b s → a ≡ b
end_one false a b s h k = h.1 ∙ sym k.1
end_one true a b s h k =
    let r = brackets_one a.dimensions b.dimensions a.varargs b.varargs (sym h ∙ k) in
    ap (λ n. type_end n a.varargs) r.0 ∙ ap (λ v. type_end b.dimensions v) r.1

-- ---- types

-- behind a part that ends a type nothing else stands
behind_one : (of_parameter : Bool) (y : List NamePiece × TypeEnd) (end : TypeEnd) (s : List ℕ) → IsTypeEnd of_parameter end s
    → IsBehindPart of_parameter y s → ([], end) ≡ y
behind_one of_parameter y end s h (ended e k) =
    ap (λ (x : List NamePiece). (x, end)) (sym e) ∙ ap (λ z. (y.0, z)) (end_one of_parameter end y.1 s h k)
behind_one of_parameter y end s h (dot rest k is) =
    let w = end_dot of_parameter end rest (subst (IsTypeEnd of_parameter end) is h) in
    absurd (no_joint_first of_parameter y (46 ∷ []) (subst (IsTypeText of_parameter y) w.1 k))
behind_one of_parameter y end s h (gap others rest k e is) =
    let w = end_dot of_parameter end (46 ∷ rest) (subst (IsTypeEnd of_parameter end) is h) in
    let same : rest ≡ 46 ∷ [] = let whole : 46 ∷ rest ≡ 46 ∷ 46 ∷ [] = w.1 in cc in
    absurd (no_joint_first of_parameter (others, y.1) [] (subst (IsTypeText of_parameter (others, y.1)) same k))

-- behind one dot stands one type, where what is left is one
dot_one : (of_parameter : Bool) (x : List NamePiece × TypeEnd) (t : List ℕ) → IsTypeText of_parameter x t
    → ((z : List NamePiece × TypeEnd) → IsTypeText of_parameter z t → x ≡ z) → (y : List NamePiece × TypeEnd)
    → IsBehindPart of_parameter y (46 ∷ t) → x ≡ y
dot_one of_parameter x t h one y (ended f g) =
    let w = end_dot of_parameter y.1 t g in
    absurd (no_joint_first of_parameter x (46 ∷ []) (subst (IsTypeText of_parameter x) w.1 h))
dot_one of_parameter x t h one y (dot r g f) =
    let same : r ≡ t = cc in one y (subst (IsTypeText of_parameter y) same g)
dot_one of_parameter x t h one y (gap further r g f q) =
    let same : t ≡ 46 ∷ r = cc in absurd (no_joint_first of_parameter x r (subst (IsTypeText of_parameter x) same h))

-- and behind two
gap_one : (of_parameter : Bool) (x : List NamePiece × TypeEnd) (t : List ℕ) → IsTypeText of_parameter x t
    → ((z : List NamePiece × TypeEnd) → IsTypeText of_parameter z t → x ≡ z) → (y : List NamePiece × TypeEnd)
    → IsBehindPart of_parameter y (46 ∷ 46 ∷ t) → (AnyParts ∷ x.0, x.1) ≡ y
gap_one of_parameter x t h one y (ended f g) =
    let w = end_dot of_parameter y.1 (46 ∷ t) g in
    let same : t ≡ 46 ∷ [] = let two : 46 ∷ t ≡ 46 ∷ 46 ∷ [] = w.1 in cc in
    absurd (no_joint_first of_parameter x [] (subst (IsTypeText of_parameter x) same h))
gap_one of_parameter x t h one y (dot r g f) =
    let same : r ≡ 46 ∷ t = cc in absurd (no_joint_first of_parameter y t (subst (IsTypeText of_parameter y) same g))
gap_one of_parameter x t h one y (gap further r g f q) =
    let same : r ≡ t = cc in
    let left = one (further, y.1) (subst (IsTypeText of_parameter (further, y.1)) same g) in
    ap (λ (z : List NamePiece × TypeEnd). (AnyParts ∷ z.0, z.1)) left ∙ ap (λ (z : List NamePiece). (z, y.1)) (sym f)

parts_one : (of_parameter : Bool) (pieces : List NamePiece) (type : List ℕ) → AreParts pieces type → (end : List ℕ) (a : TypeEnd)
    → IsTypeEnd of_parameter a end → (y : List NamePiece × TypeEnd) → IsTypeText of_parameter y (type ++ end) → (pieces, a) ≡ y
parts_one of_parameter pieces type (last part e) end a h y k =
    let p = parted of_parameter y (type ++ end) k in
    let same = cut inner type p.part end p.behind (inner_part type part) (inner_part p.part p.part_is) (end_ends of_parameter a end h)
    (behind_ends of_parameter (p.more, y.1) p.behind p.rest) p.is in
    let left = behind_one of_parameter (p.more, y.1) a end h (subst (IsBehindPart of_parameter (p.more, y.1)) (sym same.1) p.rest) in
    ap (λ (x : List NamePiece). (x, a)) (e ∙ ap (λ x. Part x ∷ []) same.0)
    ∙ (ap (λ (x : List NamePiece × TypeEnd). (Part p.part ∷ x.0, x.1)) left ∙ ap (λ (x : List NamePiece). (x, y.1)) (sym p.pieces))
parts_one of_parameter pieces type (dotted part others rest part_is parts e is) end a h y k =
    let whole : type ++ end ≡ part ++ 46 ∷ (rest ++ end) = ap (λ t. t ++ end) is ∙ append_assoc part (46 ∷ rest) end in
    let p = parted of_parameter y (type ++ end) k in
    let same = cut inner part p.part (46 ∷ (rest ++ end)) p.behind (inner_part part part_is) (inner_part p.part p.part_is) refl
    (behind_ends of_parameter (p.more, y.1) p.behind p.rest) (sym whole ∙ p.is) in
    let left = dot_one of_parameter (others, a) (rest ++ end) (rest, (end, refl, parts, h))
    (λ z k. parts_one of_parameter others rest parts end a h z k) (p.more, y.1)
    (subst (IsBehindPart of_parameter (p.more, y.1)) (sym same.1) p.rest) in
    ap (λ (x : List NamePiece). (x, a)) (e ∙ ap (λ x. Part x ∷ others) same.0)
    ∙ (ap (λ (x : List NamePiece × TypeEnd). (Part p.part ∷ x.0, x.1)) left ∙ ap (λ (x : List NamePiece). (x, y.1)) (sym p.pieces))
parts_one of_parameter pieces type (over_parts part others rest part_is parts e is) end a h y k =
    let whole : type ++ end ≡ part ++ 46 ∷ 46 ∷ (rest ++ end) =
    ap (λ t. t ++ end) is ∙ append_assoc part (46 ∷ 46 ∷ rest) end in
    let p = parted of_parameter y (type ++ end) k in
    let same = cut inner part p.part (46 ∷ 46 ∷ (rest ++ end)) p.behind (inner_part part part_is) (inner_part p.part p.part_is) refl
    (behind_ends of_parameter (p.more, y.1) p.behind p.rest) (sym whole ∙ p.is) in
    let left = gap_one of_parameter (others, a) (rest ++ end) (rest, (end, refl, parts, h))
    (λ z k. parts_one of_parameter others rest parts end a h z k) (p.more, y.1)
    (subst (IsBehindPart of_parameter (p.more, y.1)) (sym same.1) p.rest) in
    ap (λ (x : List NamePiece). (x, a)) (e ∙ ap (λ x. Part x ∷ AnyParts ∷ others) same.0)
    ∙ (ap (λ (x : List NamePiece × TypeEnd). (Part p.part ∷ x.0, x.1)) left ∙ ap (λ (x : List NamePiece). (x, y.1)) (sym p.pieces))

pub type_one : (of_parameter : Bool) (x y : List NamePiece × TypeEnd) (s : List ℕ) → IsTypeText of_parameter x s
    → IsTypeText of_parameter y s → x ≡ y
type_one of_parameter x y s h k =
    parts_one of_parameter x.0 h.0 h.1.2 h.1.0 x.1 h.1.3 y (subst (IsTypeText of_parameter y) h.1.1 k)

pub one_type_pattern : TypePatternsAreOne
one_type_pattern s a b h k =
    let same = type_one false (a.pieces, type_end 0 false) (b.pieces, type_end 0 false) s (pattern_type a s h) (pattern_type b s k) in
    ap (λ (x : List NamePiece × TypeEnd). record { pieces = x.0 }) same

-- ---- parameters

-- so many dimensions a type has with `...`, or without
abbrev pub dimensions_with : Bool → ℕ → ℕ
dimensions_with false n = n
dimensions_with true n = n + 1

pub type_param : (x : List NamePiece × TypeEnd) (s : List ℕ) → IsTypeText true x s
    → IsWrittenParam x.1.varargs (param_of x.0 (dimensions_with x.1.varargs x.1.dimensions)) s
type_param x s h = go x.1.varargs (h.1.1 ∙ ap (λ e. h.0 ++ e) h.1.3)
  where
    go : (v : Bool) → s ≡ h.0 ++ (brackets x.1.dimensions ++ varargs_text v)
        → IsWrittenParam v (param_of x.0 (dimensions_with v x.1.dimensions)) s
    go false e = inr (x.0, (x.1.dimensions, ((h.0, e, h.1.2), refl)))
    go true e = (x.0, (x.1.dimensions, ((h.0, e, h.1.2), refl)))

typed_type : (pieces : List NamePiece) (n : ℕ) (v : Bool) (s : List ℕ) → IsTyped pieces n (varargs_text v) s
    → IsTypeText true (pieces, type_end n v) s
typed_type pieces n v s h = (h.0, (brackets n ++ varargs_text v, h.1, h.2, refl))

-- a parameter is `..` or has a type
pub record HasType (w : WrittenParam) (s : List ℕ) : Type 0 where
  pub pieces : List NamePiece
  pub dimensions : ℕ
  pub form : IsTypeText true (pieces, type_end dimensions w.varargs) s
  pub param_is : w.param ≡ param_of pieces (dimensions_with w.varargs dimensions)

abbrev pub IsRest : WrittenParam → List ℕ → Type 0
IsRest w s = (s ≡ codes "..") × (w.param ≡ Rest) × (w.varargs ≡ false)

pub param_type : (w : WrittenParam) (s : List ℕ) → IsParamText w s → IsRest w s ⊎ HasType w s
param_type w s h = go w.varargs refl h
  where
    go : (v : Bool) → w.varargs ≡ v → IsWrittenParam v w.param s → IsRest w s ⊎ HasType w s
    go false is (inl rest) = inl (rest.0, rest.1, is)
    go false is (inr (pieces, k)) = inr (record {
      pieces = pieces;
      dimensions = k.0;
      form = subst (λ v. IsTypeText true (pieces, type_end k.0 v) s) (sym is) (typed_type pieces k.0 false s k.1.0);
      param_is = k.1.1 ∙ ap (λ v. param_of pieces (dimensions_with v k.0)) (sym is);
    })
    go true is (pieces, k) = inr (record {
      pieces = pieces;
      dimensions = k.0;
      form = subst (λ v. IsTypeText true (pieces, type_end k.0 v) s) (sym is) (typed_type pieces k.0 true s k.1.0);
      param_is = k.1.1 ∙ ap (λ v. param_of pieces (dimensions_with v k.0)) (sym is);
    })

rest_no_type : (x : List NamePiece × TypeEnd) (s : List ℕ) → s ≡ codes ".." → IsTypeText true x s → ⊥
rest_no_type x s is h = no_joint_first true x (46 ∷ []) (subst (IsTypeText true x) is h)

abbrev pub written : ParamPattern → Bool → WrittenParam
written param varargs = record { param = param; varargs = varargs }

pub param_one : (a b : WrittenParam) (s : List ℕ) → IsParamText a s → IsParamText b s → a ≡ b
param_one a b s h k = go (param_type a s h) (param_type b s k)
  where
    go : IsRest a s ⊎ HasType a s → IsRest b s ⊎ HasType b s → a ≡ b
    go (inl r) (inl t) = ap (λ p. written p a.varargs) (r.1 ∙ sym t.1) ∙ ap (λ v. written b.param v) (r.2 ∙ sym t.2)
    go (inl r) (inr t) = absurd (rest_no_type (t.pieces, type_end t.dimensions b.varargs) s r.0 t.form)
    go (inr r) (inl t) = absurd (rest_no_type (r.pieces, type_end r.dimensions a.varargs) s t.0 r.form)
    go (inr r) (inr t) =
        let same = type_one true (r.pieces, type_end r.dimensions a.varargs) (t.pieces, type_end t.dimensions b.varargs) s r.form t.form in
        let varargs : a.varargs ≡ b.varargs = ap (λ (x : List NamePiece × TypeEnd). x.1.varargs) same in
        let param : a.param ≡ b.param =
        r.param_is
        ∙ (ap (λ (x : List NamePiece × TypeEnd). param_of x.0 (dimensions_with x.1.varargs x.1.dimensions)) same ∙ sym t.param_is) in
        ap (λ p. written p a.varargs) param ∙ ap (λ v. written b.param v) varargs

-- ---- reading a parameter

pub rest_wrong : (s : List ℕ) (n : ℕ) → first s ≡ Some 46 → IsWrongAt (IsExactly (codes "..")) s n → IsWrongAt IsParamText s n
rest_wrong s n dot_first w =
    chosen (IsExactly (codes "..")) IsParamText s n (λ x rest is. (written Rest false, inl (is, refl)))
    (λ y rest e h. (tt, only y rest (e ∙ dot_first) (param_type y rest h))) w
  where
    only : (y : WrittenParam) (rest : List ℕ) → first rest ≡ Some 46 → IsRest y rest ⊎ HasType y rest → rest ≡ codes ".."
    only y rest e (inl r) = r.0
    only y [] e (inr t) = absurd (let f : None ≡ Some 46 = e in cc)
    only y (b ∷ rest) e (inr t) =
        let same : b ≡ 46 = cc in
        let x : List NamePiece × TypeEnd = (t.pieces, type_end t.dimensions y.varargs) in
        absurd (no_joint_first true x rest (subst (λ c. IsTypeText true x (c ∷ rest)) same t.form))

pub type_wrong : (s : List ℕ) (n : ℕ) → (first s ≡ Some 46 → ⊥) → IsWrongAt (IsTypeText true) s n → IsWrongAt IsParamText s n
type_wrong s n other w =
    chosen (IsTypeText true) IsParamText s n
    (λ x rest h. (written (param_of x.0 (dimensions_with x.1.varargs x.1.dimensions)) x.1.varargs, type_param x rest h))
    (λ y rest e h. only y rest e (param_type y rest h)) w
  where
    only : (y : WrittenParam) (rest : List ℕ) → first rest ≡ first s → IsRest y rest ⊎ HasType y rest
        → (x : List NamePiece × TypeEnd) × IsTypeText true x rest
    only y rest e (inl r) = absurd (other (sym e ∙ ap first r.0))
    only y rest e (inr t) = ((t.pieces, type_end t.dimensions y.varargs), t.form)

brackets_length : (n : ℕ) → length (brackets n) ≡ 2 * n
brackets_length zero = refl
brackets_length (suc n) = omega (arith, brackets_length n)

-- a type has less dimensions than bytes
pub few_dimensions : (x : List NamePiece × TypeEnd) (s : List ℕ) → IsTypeText true x s → x.1.dimensions ≤ length s
few_dimensions x s h =
    omega (
      arith,
      ap length (h.1.1 ∙ ap (λ e. h.0 ++ e) h.1.3),
      length-append h.0 (brackets x.1.dimensions ++ varargs_text x.1.varargs),
      length-append (brackets x.1.dimensions) (varargs_text x.1.varargs),
      brackets_length x.1.dimensions,
    )
