-- How the reading of a type goes on, and where it stops.
use Rattle.std.proofs.Common.{◌≡◌, ℕ, zero, suc, ◌+◌, ◌<◌, Bool, true, false, List, [], ◌∷◌, ◌++◌, length, drop}
use Rattle.std.proofs.Common.{eqb, Some, None, refl, sym, ap, subst, ◌∙◌, arith}
use Rattle.std.specs.Prelude.{codes}
use Rattle.std.specs.List.{starts_with}
use Rattle.std.proofs.lemmas.Slice.Eq.{starts_is}
use Rattle.std.proofs.lemmas.Bool.Decides.{Decides-eqb}
use Rattle.method_pattern.specs.Texts.{brackets, IsWrongAt}
use Rattle.method_pattern.specs.declared.type_text.TypeEnd.{TypeEnd}
use Rattle.method_pattern.specs.Reading.{GoesOn, IsExactly, IsTypeEnd}
use Rattle.method_pattern.specs.Reading.{varargs_text}
use Rattle.method_pattern.proofs.Places.{first, chosen, stuck, begun_reading, goes_on, rejoined}

abbrev pub type_end : ℕ → Bool → TypeEnd
type_end n varargs = record { dimensions = n; varargs = varargs }

-- ---- brackets

abbrev pub counted : ℕ → TypeEnd → TypeEnd
counted n end = type_end (n + end.dimensions) end.varargs

-- the first byte of what stands behind a type
no_end : (end : TypeEnd) (b : ℕ) (s : List ℕ) → (b ≡ 91 → ⊥) → (b ≡ 46 → ⊥) → IsTypeEnd true end (b ∷ s) → ⊥
no_end end b s other none h = go end.dimensions end.varargs h
  where
    go : (n : ℕ) (v : Bool) → b ∷ s ≡ brackets n ++ varargs_text v → ⊥
    go zero false e = cc
    go zero true e = none (cc)
    go (suc n) v e = other (cc)

pub same_numbers : (a b : ℕ) (x y : List ℕ) → a ∷ x ≡ b ∷ y → a ≡ b
same_numbers a b x y e = cc

bracket_up : (end : TypeEnd) (rest : List ℕ) → IsTypeEnd true end rest → IsTypeEnd true (counted 1 end) (91 ∷ 93 ∷ rest)
bracket_up end rest h =
    let more : suc end.dimensions ≡ 1 + end.dimensions = omega arith in
    ap (λ x. 91 ∷ 93 ∷ x) h ∙ ap (λ n. brackets n ++ varargs_text end.varargs) more

-- behind `[` stands `]`
bracket_down : (end : TypeEnd) (rest : List ℕ) → IsTypeEnd true end (91 ∷ rest)
    → (t : List ℕ) × ((rest ≡ 93 ∷ t) × ((x : TypeEnd) × IsTypeEnd true x t))
bracket_down end rest h = go end.dimensions end.varargs h
  where
    go : (n : ℕ) (v : Bool) → 91 ∷ rest ≡ brackets n ++ varargs_text v
        → (t : List ℕ) × ((rest ≡ 93 ∷ t) × ((x : TypeEnd) × IsTypeEnd true x t))
    go zero false e = absurd (cc)
    go zero true e = absurd (omega (arith, same_numbers 91 46 rest (46 ∷ 46 ∷ []) e))
    go (suc n) v e = (brackets n ++ varargs_text v, ((cc), (type_end n v, refl)))

-- so many brackets are read
abbrev pub BracketsRead : List ℕ → ℕ → ℕ → Type 0
BracketsRead text n at = GoesOn (IsTypeEnd true) (IsTypeEnd true) (counted n) text at

pub none_read : (text : List ℕ) → BracketsRead text 0 0
none_read text =
    rejoined (IsTypeEnd true) (IsTypeEnd true) (λ x. x) (counted 0) text 0 (begun_reading (IsTypeEnd true) text)
    (λ x. ap (λ n. type_end n x.varargs) (omega arith))

pub bracket_read : (text : List ℕ) (n at : ℕ) (s : List ℕ) → BracketsRead text n at → drop at text ≡ 91 ∷ 93 ∷ s
    → BracketsRead text (n + 1) (at + 2)
bracket_read text n at s g is =
    rejoined (IsTypeEnd true) (IsTypeEnd true) (λ x. counted n (counted 1 x)) (counted (n + 1)) text (at + 2)
    (goes_on (IsTypeEnd true) (IsTypeEnd true) (IsTypeEnd true) (counted n) (counted 1) text at g (91 ∷ 93 ∷ []) s is bracket_up
    (λ y rest e h.
    let d = bracket_down y (93 ∷ rest) h in
    let same : rest ≡ d.0 = let whole : 93 ∷ rest ≡ 93 ∷ d.0 = d.1.0 in cc in
    (d.1.1.0, subst (IsTypeEnd true d.1.1.0) (sym same) d.1.1.1))
    2 refl)
    (λ x. let sum : n + (1 + x.dimensions) ≡ (n + 1) + x.dimensions = omega arith in ap (λ m. type_end m x.varargs) sum)

pub brackets_end : (text : List ℕ) (n at : ℕ) (varargs : Bool) → BracketsRead text n at → drop at text ≡ varargs_text varargs
    → IsTypeEnd true (type_end n varargs) text
brackets_end text n at varargs g is =
    let sum : n + 0 ≡ n = omega arith in
    subst (λ m. IsTypeEnd true (type_end m varargs) text) sum (g.value (type_end 0 varargs) is)

-- `[` with anything but `]` behind it
pub bracket_wrong : (text : List ℕ) (n at : ℕ) (s : List ℕ) → BracketsRead text n at → drop at text ≡ 91 ∷ s
    → (first s ≡ Some 93 → ⊥) → IsWrongAt (IsTypeEnd true) text (at + 1)
bracket_wrong text n at s g is other =
    g.fault 1 (subst (λ x. IsWrongAt (IsTypeEnd true) x 1) (sym is)
    (stuck (IsTypeEnd true) (91 ∷ []) s 1 refl (type_end 1 false) (93 ∷ []) refl
    (λ y rest e h. let d = bracket_down y rest h in other (sym e ∙ ap first d.1.0))))

-- a text of `[` and what begins with `]` begins with both
pub closed : (s : List ℕ) (r : Bool) → r ≡ starts_with eqb s (91 ∷ 93 ∷ []) → s ≡ 91 ∷ drop 1 s → first (drop 1 s) ≡ Some 93
    → r ≡ true
closed s r is whole e = go (drop 1 s) whole e
  where
    go : (t : List ℕ) → s ≡ 91 ∷ t → first t ≡ Some 93 → r ≡ true
    go [] w f = absurd (let g : None ≡ Some 93 = f in cc)
    go (b ∷ t) w f =
        let same : b ≡ 93 = cc in
        (starts_is Decides-eqb s (91 ∷ 93 ∷ []) r is).1 t (w ∙ ap (λ x. 91 ∷ x ∷ t) same)

-- neither the end nor `[`
pub dots_wrong : (text : List ℕ) (n at m : ℕ) → BracketsRead text n at → 0 < length (drop at text)
    → (first (drop at text) ≡ Some 91 → ⊥) → IsWrongAt (IsExactly (codes "...")) (drop at text) m
    → IsWrongAt (IsTypeEnd true) text (at + m)
dots_wrong text n at m g some other w =
    g.fault m (chosen (IsExactly (codes "...")) (IsTypeEnd true) (drop at text) m (λ x rest is. (type_end 0 true, is))
    (λ y rest e h. (tt, only y.dimensions y.varargs rest (drop at text) e some other h)) w)
  where
    only : (n : ℕ) (v : Bool) (rest s : List ℕ) → first rest ≡ first s → 0 < length s → (first s ≡ Some 91 → ⊥)
        → rest ≡ brackets n ++ varargs_text v → rest ≡ codes "..."
    only zero false rest [] e some other is = absurd (omega arith)
    only zero false rest (b ∷ s) e some other is = absurd (let f : None ≡ Some b = sym (ap first is) ∙ e in cc)
    only zero true rest s e some other is = is
    only (suc n) v rest s e some other is = absurd (other (sym e ∙ ap first is))

pub no_end_wrong : (s : List ℕ) → 0 < length s → IsWrongAt (IsTypeEnd false) s 0
no_end_wrong [] some = absurd (omega arith)
no_end_wrong (b ∷ s) some =
    stuck (IsTypeEnd false) [] (b ∷ s) 0 refl (type_end 0 false) [] (refl, refl)
    (λ y rest e h. let f : None ≡ Some b = sym (ap first h.0) ∙ e in cc)
