-- How the reading of a type goes from part to part.
use Rattle.std.proofs.Common.{◌≡◌, ℕ, zero, suc, ◌+◌, inl, inr, Bool, true, false, List, [], ◌∷◌, ◌++◌, take, drop}
use Rattle.std.proofs.Common.{Some, None, refl, sym, ap, subst, ◌∙◌, arith, append_assoc, append-nil, take-append-drop}
use Rattle.std.specs.Prelude.{◌==◌}
use Rattle.std.specs.List.{list_all}
use Rattle.std.proofs.lemmas.Bool.{eq-eqb}
use Rattle.std.proofs.lemmas.List.{length-take-le}
use Rattle.rw_base.specs.FrontLaws.{longest_front_is_one}
use Rattle.method_pattern.specs.Texts.{IsPart, AreParts, last, dotted, over_parts, brackets, IsWrongAt, IsTypePattern}
use Rattle.method_pattern.specs.declared.pattern.TypePattern.{TypePattern}
use Rattle.method_pattern.specs.declared.pattern.NamePiece.{NamePiece}
use Rattle.method_pattern.specs.declared.pattern.NamePiece.TheVariants.{Part, AnyParts}
use Rattle.method_pattern.specs.declared.type_text.TypeEnd.{TypeEnd}
use Rattle.method_pattern.specs.declared.type_text.Joint.TheVariants.{Dot, Gap, End}
use Rattle.method_pattern.specs.Reading.{GoesOn, Ends, outside, IsRunSize, IsPartText, IsTypeEnd, IsTypeText}
use Rattle.method_pattern.specs.Reading.{IsBehindPart, ended, dot, gap, IsJoint, varargs_text}
use Rattle.method_pattern.proofs.Places.{first, chosen, stuck, cut, IsCut, ends_alike, widened, begun_reading, goes_on, rejoined}
use Rattle.method_pattern.proofs.Spared.{spared, part_all}
use Rattle.method_pattern.proofs.TypeSteps.{type_end, same_numbers}

-- the bytes of a part, in a type
abbrev pub inner : ℕ → Bool
inner = outside (46 ∷ 91 ∷ [])

pub inner_part : (s : List ℕ) → IsPart s → list_all inner s ≡ true
inner_part s h = part_all inner (spared (46 ∷ 91 ∷ []) refl) s h

abbrev pub with_pieces : List NamePiece → (List NamePiece × TypeEnd) → (List NamePiece × TypeEnd)
with_pieces pieces x = (pieces ++ x.0, x.1)

-- ---- the first part

-- a type in its first part and what stands behind that
pub record Parted (of_parameter : Bool) (x : List NamePiece × TypeEnd) (s : List ℕ) : Type 0 where
  pub part : List ℕ
  pub more : List NamePiece
  pub behind : List ℕ
  pub is : s ≡ part ++ behind
  pub part_is : IsPart part
  pub pieces : x.0 ≡ Part part ∷ more
  pub rest : IsBehindPart of_parameter (more, x.1) behind

pub end_ends : (of_parameter : Bool) (end : TypeEnd) (s : List ℕ) → IsTypeEnd of_parameter end s → Ends inner s
end_ends false end s h = subst (Ends inner) (sym h.0) tt
end_ends true end s h = subst (Ends inner) (sym h) (go end.dimensions end.varargs)
  where
    go : (n : ℕ) (v : Bool) → Ends inner (brackets n ++ varargs_text v)
    go zero false = tt
    go zero true = refl
    go (suc n) v = refl

pub behind_ends : (of_parameter : Bool) (x : List NamePiece × TypeEnd) (s : List ℕ) → IsBehindPart of_parameter x s → Ends inner s
behind_ends of_parameter x s (ended e h) = end_ends of_parameter x.1 s h
behind_ends of_parameter x s (dot rest h is) = subst (Ends inner) (sym is) refl
behind_ends of_parameter x s (gap others rest h e is) = subst (Ends inner) (sym is) refl

pub parted : (of_parameter : Bool) (x : List NamePiece × TypeEnd) (s : List ℕ) → IsTypeText of_parameter x s → Parted of_parameter x s
parted of_parameter x s h = go h.0 h.1.0 h.1.1 h.1.2 h.1.3
  where
    go : (type end : List ℕ) → s ≡ type ++ end → AreParts x.0 type → IsTypeEnd of_parameter x.1 end → Parted of_parameter x s
    go type end is (last part e) ends = record {
      part = type;
      more = [];
      behind = end;
      is = is;
      part_is = part;
      pieces = e;
      rest = ended refl ends;
    }
    go type end is (dotted part others rest part_is parts e type_is) ends = record {
      part = part;
      more = others;
      behind = 46 ∷ (rest ++ end);
      is = is ∙ (ap (λ t. t ++ end) type_is ∙ append_assoc part (46 ∷ rest) end);
      part_is = part_is;
      pieces = e;
      rest = dot (rest ++ end) (rest, (end, refl, parts, ends)) refl;
    }
    go type end is (over_parts part others rest part_is parts e type_is) ends = record {
      part = part;
      more = AnyParts ∷ others;
      behind = 46 ∷ 46 ∷ (rest ++ end);
      is = is ∙ (ap (λ t. t ++ end) type_is ∙ append_assoc part (46 ∷ 46 ∷ rest) end);
      part_is = part_is;
      pieces = e;
      rest = gap others (rest ++ end) (rest, (end, refl, parts, ends)) refl refl;
    }

pub joined : (of_parameter : Bool) (x : List NamePiece × TypeEnd) (part behind : List ℕ) → IsPart part
    → IsBehindPart of_parameter x behind → IsTypeText of_parameter (Part part ∷ x.0, x.1) (part ++ behind)
joined of_parameter x part behind part_is (ended e h) = (part, (behind, refl, last part_is (ap (λ y. Part part ∷ y) e), h))
joined of_parameter x part behind part_is (dot rest h is) = (
  part ++ 46 ∷ h.0,
  (
    h.1.0,
    ap (λ y. part ++ y) is ∙ (ap (λ y. part ++ 46 ∷ y) h.1.1 ∙ sym (append_assoc part (46 ∷ h.0) h.1.0)),
    dotted part x.0 h.0 part_is h.1.2 refl refl,
    h.1.3,
  ),
)
joined of_parameter x part behind part_is (gap others rest h e is) = (
  part ++ 46 ∷ 46 ∷ h.0,
  (
    h.1.0,
    ap (λ y. part ++ y) is ∙ (ap (λ y. part ++ 46 ∷ 46 ∷ y) h.1.1 ∙ sym (append_assoc part (46 ∷ 46 ∷ h.0) h.1.0)),
    over_parts part others h.0 part_is h.1.2 (ap (λ y. Part part ∷ y) e) refl,
    h.1.3,
  ),
)

pub no_joint_first : (of_parameter : Bool) (x : List NamePiece × TypeEnd) (s : List ℕ) → IsTypeText of_parameter x (46 ∷ s) → ⊥
no_joint_first of_parameter x s h = let p = parted of_parameter x (46 ∷ s) h in
    go p.part p.behind p.is p.part_is
  where
    go : (part behind : List ℕ) → 46 ∷ s ≡ part ++ behind → IsPart part → ⊥
    go [] behind is part_is = omega (arith, part_is.0)
    go (b ∷ part) behind is part_is =
        let same : 46 ≡ b = cc in
        let all : list_all inner (46 ∷ part) ≡ true = subst (λ x. list_all inner (x ∷ part) ≡ true) (sym same) (inner_part (b ∷ part) part_is) in
        (let f : false ≡ true = all in cc)

pub ends_there : (of_parameter : Bool) → IsTypeEnd of_parameter (type_end 0 false) []
ends_there false = (refl, refl)
ends_there true = refl

-- ---- reading a part

abbrev pub TypeRead : Bool → List NamePiece → List ℕ → ℕ → Type 0
TypeRead of_parameter pieces text at =
    GoesOn (IsTypeText of_parameter) (IsTypeText of_parameter) (with_pieces pieces) text at

abbrev pub PartRead : Bool → List NamePiece → List ℕ → ℕ → Type 0
PartRead of_parameter pieces text at =
    GoesOn (IsTypeText of_parameter) (IsBehindPart of_parameter) (with_pieces pieces) text at

pub nothing_read : (of_parameter : Bool) (text : List ℕ) → TypeRead of_parameter [] text 0
nothing_read of_parameter text = begun_reading (IsTypeText of_parameter) text

part_split : (of_parameter : Bool) (y : List NamePiece × TypeEnd) (s : List ℕ) → IsTypeText of_parameter y s → IsCut IsPartText inner s
part_split of_parameter y s h =
    let p = parted of_parameter y s h in
    record { value = tt; front = p.part; behind = p.behind; is = p.is; form = p.part_is; ends = behind_ends of_parameter (p.more, y.1) p.behind p.rest }

behind_down : (of_parameter : Bool) (front s : List ℕ) → list_all inner front ≡ true → Ends inner s
    → (y : List NamePiece × TypeEnd) (rest : List ℕ) → first rest ≡ first s → IsTypeText of_parameter y (front ++ rest)
    → (x : List NamePiece × TypeEnd) × IsBehindPart of_parameter x rest
behind_down of_parameter front s run ends y rest e h =
    let p = parted of_parameter y (front ++ rest) h in
    let same = cut inner front p.part rest p.behind run (inner_part p.part p.part_is) (ends_alike inner rest s e ends)
    (behind_ends of_parameter (p.more, y.1) p.behind p.rest) p.is in
    ((p.more, y.1), subst (IsBehindPart of_parameter (p.more, y.1)) (sym same.1) p.rest)

pub part_read : (of_parameter : Bool) (pieces : List NamePiece) (text : List ℕ) (at n : ℕ) → TypeRead of_parameter pieces text at
    → IsRunSize inner (drop at text) n → IsPart (take n (drop at text))
    → PartRead of_parameter (pieces ++ Part (take n (drop at text)) ∷ []) text (at + n)
part_read of_parameter pieces text at n g r part =
    let s = drop at text in
    let front = take n s in
    rejoined (IsTypeText of_parameter) (IsBehindPart of_parameter) (λ x. with_pieces pieces (Part front ∷ x.0, x.1))
    (with_pieces (pieces ++ Part front ∷ [])) text (at + n)
    (goes_on (IsTypeText of_parameter) (IsTypeText of_parameter) (IsBehindPart of_parameter) (with_pieces pieces)
    (λ x. (Part front ∷ x.0, x.1)) text at g front (drop n s) (sym (take-append-drop n s))
    (λ x rest h. joined of_parameter x front rest part h)
    (behind_down of_parameter front (drop n s) r.run r.ends) n (length-take-le n s r.inside))
    (λ x. ap (λ (y : List NamePiece). (y, x.1)) (sym (append_assoc pieces (Part front ∷ []) x.0)))

pub part_bad : (of_parameter : Bool) (pieces : List NamePiece) (text : List ℕ) (at n m : ℕ) → TypeRead of_parameter pieces text at
    → IsRunSize inner (drop at text) n → IsWrongAt IsPartText (take n (drop at text)) m → IsWrongAt (IsTypeText of_parameter) text (at + m)
part_bad of_parameter pieces text at n m g r w =
    let s = drop at text in
    g.fault m (subst (λ x. IsWrongAt (IsTypeText of_parameter) x m) (take-append-drop n s)
    (widened IsPartText (IsTypeText of_parameter) inner (λ x o h. inner_part o h) (part_split of_parameter)
    (λ x o h. ((Part o ∷ [], type_end 0 false), ([], joined of_parameter ([], type_end 0 false) o [] h (ended refl (ends_there of_parameter)))))
    (take n s) (drop n s) r.run r.ends m w))

-- ---- reading what stands behind one

no_dot : (s : List ℕ) → Ends (λ b. b == 46) s → first s ≡ Some 46 → ⊥
no_dot [] h e = let f : None ≡ Some 46 = e in cc
no_dot (b ∷ s) h e =
    let same : b ≡ 46 = cc in
    let f : true ≡ false = sym (eq-eqb b 46 same) ∙ h in cc

-- what stands behind dots in the end of a type
pub end_dot : (of_parameter : Bool) (end : TypeEnd) (s : List ℕ) → IsTypeEnd of_parameter end (46 ∷ s)
    → (of_parameter ≡ true) × (s ≡ 46 ∷ 46 ∷ [])
end_dot false end s h = absurd (let f : 46 ∷ s ≡ [] = h.0 in cc)
end_dot true end s h = (refl, go end.dimensions end.varargs h)
  where
    go : (n : ℕ) (v : Bool) → 46 ∷ s ≡ brackets n ++ varargs_text v → s ≡ 46 ∷ 46 ∷ []
    go zero false e = absurd (cc)
    go zero true e = cc
    go (suc n) v e = absurd (omega (arith, same_numbers 46 91 s (93 ∷ (brackets n ++ varargs_text v)) e))

dot_down : (of_parameter : Bool) (s : List ℕ) → Ends (λ b. b == 46) s → (y : List NamePiece × TypeEnd) (rest : List ℕ)
    → first rest ≡ first s → IsBehindPart of_parameter y (46 ∷ rest) → (x : List NamePiece × TypeEnd) × IsTypeText of_parameter x rest
dot_down of_parameter s none y rest e (ended p h) =
    absurd (no_dot s none (sym e ∙ ap first (end_dot of_parameter y.1 rest h).1))
dot_down of_parameter s none y rest e (dot r h is) =
    let same : r ≡ rest = cc in (y, subst (IsTypeText of_parameter y) same h)
dot_down of_parameter s none y rest e (gap others r h p is) =
    let same : rest ≡ 46 ∷ r = cc in absurd (no_dot s none (sym e ∙ ap first same))

pub dot_next : (of_parameter : Bool) (pieces : List NamePiece) (text : List ℕ) (at : ℕ) → PartRead of_parameter pieces text at
    → IsJoint of_parameter Dot (drop at text) → TypeRead of_parameter pieces text (at + 1)
dot_next of_parameter pieces text at g (s, j) =
    goes_on (IsTypeText of_parameter) (IsBehindPart of_parameter) (IsTypeText of_parameter) (with_pieces pieces) (λ x. x) text at g
    (46 ∷ []) s j.0 (λ x rest h. dot rest h refl) (dot_down of_parameter s j.1) 1 refl

gap_down : (of_parameter : Bool) (s : List ℕ) → (of_parameter ≡ true → Ends (λ b. b == 46) s) → (y : List NamePiece × TypeEnd)
    (rest : List ℕ) → first rest ≡ first s → IsBehindPart of_parameter y (46 ∷ 46 ∷ rest)
    → (x : List NamePiece × TypeEnd) × IsTypeText of_parameter x rest
gap_down of_parameter s none y rest e (ended p h) =
    let w = end_dot of_parameter y.1 (46 ∷ rest) h in
    let same : rest ≡ 46 ∷ [] = let whole : 46 ∷ rest ≡ 46 ∷ 46 ∷ [] = w.1 in cc in
    absurd (no_dot s (none w.0) (sym e ∙ ap first same))
gap_down of_parameter s none y rest e (dot r h is) =
    let same : r ≡ 46 ∷ rest = cc in
    absurd (no_joint_first of_parameter y rest (subst (IsTypeText of_parameter y) same h))
gap_down of_parameter s none y rest e (gap others r h p is) =
    let same : r ≡ rest = cc in ((others, y.1), subst (IsTypeText of_parameter (others, y.1)) same h)

pub gap_next : (of_parameter : Bool) (pieces : List NamePiece) (text : List ℕ) (at : ℕ) → PartRead of_parameter pieces text at
    → IsJoint of_parameter Gap (drop at text) → TypeRead of_parameter (pieces ++ AnyParts ∷ []) text (at + 2)
gap_next of_parameter pieces text at g (s, j) =
    rejoined (IsTypeText of_parameter) (IsTypeText of_parameter) (λ x. with_pieces pieces (AnyParts ∷ x.0, x.1))
    (with_pieces (pieces ++ AnyParts ∷ [])) text (at + 2)
    (goes_on (IsTypeText of_parameter) (IsBehindPart of_parameter) (IsTypeText of_parameter) (with_pieces pieces)
    (λ x. (AnyParts ∷ x.0, x.1)) text at g (46 ∷ 46 ∷ []) s j.0 (λ x rest h. gap x.0 rest h refl refl)
    (gap_down of_parameter s j.1) 2 refl)
    (λ x. ap (λ (y : List NamePiece). (y, x.1)) (sym (append_assoc pieces (AnyParts ∷ []) x.0)))

pub end_right : (of_parameter : Bool) (pieces : List NamePiece) (text : List ℕ) (at : ℕ) (end : TypeEnd)
    → PartRead of_parameter pieces text at → IsTypeEnd of_parameter end (drop at text)
    → IsTypeText of_parameter (pieces, end) text
end_right of_parameter pieces text at end g h =
    subst (λ (x : List NamePiece). IsTypeText of_parameter (x, end) text) (append-nil pieces) (g.value ([], end) (ended refl h))

end_up : (of_parameter : Bool) (end : TypeEnd) (s : List ℕ) → IsTypeEnd of_parameter end s → IsBehindPart of_parameter ([], end) s
end_up of_parameter end s h = ended refl h

end_down : (of_parameter : Bool) (s : List ℕ) → Ends (λ b. b == 46) s → (y : List NamePiece × TypeEnd) (rest : List ℕ)
    → first rest ≡ first s → IsBehindPart of_parameter y rest → (x : TypeEnd) × IsTypeEnd of_parameter x rest
end_down of_parameter s none y rest e (ended p h) = (y.1, h)
end_down of_parameter s none y rest e (dot r h is) = absurd (no_dot s none (sym e ∙ ap first is))
end_down of_parameter s none y rest e (gap others r h p is) = absurd (no_dot s none (sym e ∙ ap first is))

-- behind `...` stands nothing
dots_end : (y : List NamePiece × TypeEnd) (rest : List ℕ) → IsBehindPart true y (46 ∷ 46 ∷ 46 ∷ rest) → rest ≡ []
dots_end y rest (ended p h) = let f : 46 ∷ 46 ∷ rest ≡ 46 ∷ 46 ∷ [] = (end_dot true y.1 (46 ∷ 46 ∷ rest) h).1 in cc
dots_end y rest (dot r h is) =
    let same : r ≡ 46 ∷ 46 ∷ rest = cc in absurd (no_joint_first true y (46 ∷ rest) (subst (IsTypeText true y) same h))
dots_end y rest (gap others r h p is) =
    let same : r ≡ 46 ∷ rest = cc in absurd (no_joint_first true (others, y.1) rest (subst (IsTypeText true (others, y.1)) same h))

dots_wrong : (s : List ℕ) (m : ℕ) → IsWrongAt (IsTypeEnd true) (46 ∷ 46 ∷ 46 ∷ s) m → IsWrongAt (IsBehindPart true) (46 ∷ 46 ∷ 46 ∷ s) m
dots_wrong [] m w = absurd (w.wrong (type_end 0 true) refl)
dots_wrong (b ∷ s) m w =
    let inner_wrong = stuck (IsTypeEnd true) (46 ∷ 46 ∷ 46 ∷ []) (b ∷ s) 3 refl (type_end 0 true) [] refl
    (λ y rest e h. only rest e (dots_end ([], y) rest (ended refl h))) in
    let same = longest_front_is_one (IsTypeEnd true) (46 ∷ 46 ∷ 46 ∷ b ∷ s) 3 m inner_wrong.longest w.longest in
    subst (IsWrongAt (IsBehindPart true) (46 ∷ 46 ∷ 46 ∷ b ∷ s)) same
    (stuck (IsBehindPart true) (46 ∷ 46 ∷ 46 ∷ []) (b ∷ s) 3 refl ([], type_end 0 true) [] (ended refl refl)
    (λ y rest e h. only rest e (dots_end y rest h)))
  where
    only : (rest : List ℕ) → first rest ≡ first (b ∷ s) → rest ≡ [] → ⊥
    only rest e is = let f : None ≡ Some b = sym (ap first is) ∙ e in cc

behind_wrong : (of_parameter : Bool) (s : List ℕ) (m : ℕ) → IsJoint of_parameter End s → IsWrongAt (IsTypeEnd of_parameter) s m
    → IsWrongAt (IsBehindPart of_parameter) s m
behind_wrong of_parameter s m (inl none) w =
    chosen (IsTypeEnd of_parameter) (IsBehindPart of_parameter) s m (λ x rest h. (([], x), end_up of_parameter x rest h))
    (end_down of_parameter s none) w
behind_wrong of_parameter s m (inr (is, dots)) w =
    let P : Bool → List ℕ → Type 0 = λ v t. IsWrongAt (IsTypeEnd v) t m in
    let Q : Bool → List ℕ → Type 0 = λ v t. IsWrongAt (IsBehindPart v) t m in
    subst (λ v. Q v s) (sym is) (subst (Q true) (sym dots.1)
    (dots_wrong dots.0 m (subst (P true) dots.1 (subst (λ v. P v s) is w))))

pub end_wrong : (of_parameter : Bool) (pieces : List NamePiece) (text : List ℕ) (at m : ℕ) → PartRead of_parameter pieces text at
    → IsJoint of_parameter End (drop at text) → IsWrongAt (IsTypeEnd of_parameter) (drop at text) m
    → IsWrongAt (IsTypeText of_parameter) text (at + m)
end_wrong of_parameter pieces text at m g j w = g.fault m (behind_wrong of_parameter (drop at text) m j w)

-- ---- type patterns

pub pattern_type : (pattern : TypePattern) (s : List ℕ) → IsTypePattern pattern s → IsTypeText false (pattern.pieces, type_end 0 false) s
pattern_type pattern s h = (s, ([], sym (append-nil s), h, (refl, refl)))

pub type_pattern : (x : List NamePiece × TypeEnd) (s : List ℕ) → IsTypeText false x s → AreParts x.0 s
type_pattern x s h =
    let whole : s ≡ h.0 = h.1.1 ∙ (ap (λ t. h.0 ++ t) h.1.3.0 ∙ append-nil h.0) in
    subst (AreParts x.0) (sym whole) h.1.2

pub pattern_wrong : (s : List ℕ) (n : ℕ) → IsWrongAt (IsTypeText false) s n → IsWrongAt IsTypePattern s n
pattern_wrong s n w =
    chosen (IsTypeText false) IsTypePattern s n (λ x rest h. (record { pieces = x.0 }, type_pattern x rest h))
    (λ y rest e h. ((y.pieces, type_end 0 false), pattern_type y rest h)) w
