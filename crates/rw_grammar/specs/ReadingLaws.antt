-- One thing comes of a text.
use Rattle.std.proofs.Common.{◌≡◌, ℕ, List, [], ◌∷◌, sym, ◌∙◌, ap, subst, arith}
use Rattle.std.specs.Prelude.{Option, Some, None, Result, Ok, Err}
use Rattle.rw_base.specs.declared.tree.Leaf.{Leaf}
use Rattle.rw_base.specs.declared.leaves.Bad.{Bad}
use Rattle.rw_base.specs.declared.place.Cause.TheVariants.{TooDeep}
use Rattle.rw_base.specs.declared.place.Refused.{Refused}
use Rattle.rw_base.specs.Arena.{Arena}
use Rattle.rw_base.specs.Trees.{Forest, none, node}
use Rattle.rw_base.specs.Laid.{laid}
use Rattle.rw_grammar.specs.Parts.{Parts, rule_of}
use Rattle.rw_grammar.specs.Faults.{IsSound}
use Rattle.rw_grammar.specs.Results.{Stops, IsDerivable, IsDerived, IsTooDeep, IsTreeOf, IsFirstOf, too_deep}
use Rattle.rw_grammar.specs.Results.{class_in, all_of}
use Rattle.rw_grammar.specs.Reading.{IsOutcome, stops-at-leaf, ends-at-bad, is-too-deep, is-tree, IsRead}
use Rattle.rw_grammar.specs.Reading.{is-too-large, is-cut}
use Rattle.rw_grammar.specs.Reading.{refused_at, refused_first, begin_of}
use Rattle.rw_grammar.specs.StopLaws.{a_rule_stops_at_one_leaf}
use Rattle.rw_grammar.specs.TreeLaws.{one_tree}

module _ (rules : List Parts) (sound : IsSound rules) (start : ℕ) (leaves : List Leaf) where
  goes_nowhere : (i : ℕ) → Stops rules start leaves i → IsDerivable rules start leaves → ⊥
  goes_nowhere i s d = s.not_derived d.2.trees d.2.derived

  same_node : (k j : ℕ) (x y : Forest) → IsTreeOf rules start leaves k x → IsTreeOf rules start leaves j y
      → (k ≡ j) × (x ≡ y)
  same_node k j x y d e =
      inner (one_tree rules sound (class_in leaves) start (all_of leaves) (node tt k x none) (node tt j y none) d e)
    where
      inner : node tt k x none ≡ node tt j y none → (k ≡ j) × (x ≡ y)
      inner e = (cc, cc)

  one_derived : (t u : Arena) → IsDerived rules start leaves t → IsDerived rules start leaves u → t ≡ u
  one_derived t u d e =
      let same = same_node d.kind e.kind d.kids e.kids d.derived e.derived in
      d.is ∙ (ap (λ k. laid leaves k d.kids) same.0 ∙ (ap (λ (x : Forest). laid leaves e.kind x) same.1 ∙ sym e.is))

  first_same : (i j : ℕ) (is js : List ℕ) → IsFirstOf i is → IsFirstOf j js → is ≡ js → i ≡ j
  first_same i j is js f g e = heads i j f.others g.others (sym f.all ∙ (e ∙ g.all))
    where
      heads : (a b : ℕ) (xs ys : List ℕ) → a ∷ xs ≡ b ∷ ys → a ≡ b
      heads a b xs ys e = cc

  deep_in : (k j : ℕ) (x y : Forest) → k ≡ j → x ≡ y → too_deep 0 0 (node tt k x none) ≡ too_deep 0 0 (node tt j y none)
  deep_in k j x y p q =
      ap (λ (i : ℕ). too_deep 0 0 (node tt i x none)) p ∙ ap (λ (z : Forest). too_deep 0 0 (node tt j z none)) q

  one_deep : (i j : ℕ) → IsTooDeep rules start leaves i → IsTooDeep rules start leaves j → i ≡ j
  one_deep i j d e =
      let same = same_node d.kind e.kind d.kids e.kids d.derived e.derived in
      first_same i j (too_deep 0 0 (node tt d.kind d.kids none)) (too_deep 0 0 (node tt e.kind e.kids none))
      d.deep e.deep
      (deep_in d.kind e.kind d.kids e.kids same.0 same.1)

  not_both : (i : ℕ) (t : Arena) → IsTooDeep rules start leaves i → IsDerived rules start leaves t → ⊥
  not_both i t d e =
      let same = same_node d.kind e.kind d.kids e.kids d.derived e.derived in
      none_first (sym d.deep.all ∙ (deep_in d.kind e.kind d.kids e.kids same.0 same.1 ∙ e.flat))
    where
      none_first : {x : ℕ} {xs : List ℕ} → x ∷ xs ≡ [] → ⊥
      none_first e = cc

  module _ (bytes : List ℕ) where
    bad_is : (b c : Bad) (bad : Option Bad) → bad ≡ Some b → bad ≡ Some c → b ≡ c
    bad_is b c bad p q = cc

    no_bad : (b : Bad) (bad : Option Bad) → bad ≡ Some b → bad ≡ None → ⊥
    no_bad b bad p q = cc

    pub outcomes_are_one : (bad : Option Bad) (a b : Result Arena Refused) → IsOutcome rules start bytes leaves bad a
        → IsOutcome rules start bytes leaves bad b → a ≡ b
    outcomes_are_one bad a b (stops-at-leaf i s e) (stops-at-leaf j t f) =
        let rule = rule_of rules in
        let same = a_rule_stops_at_one_leaf rule (class_in leaves) (rule start) (all_of leaves) i j s t in
        e ∙ (ap (λ (k : ℕ). Err (refused_first bytes bad (begin_of bytes leaves k))) same ∙ sym f)
    outcomes_are_one bad a b (stops-at-leaf i s e) (ends-at-bad c q d f) = absurd (goes_nowhere i s d)
    outcomes_are_one bad a b (stops-at-leaf i s e) (is-too-deep j q d f) =
        absurd (goes_nowhere i s (d.kind, d.kids, d.derived))
    outcomes_are_one bad a b (stops-at-leaf i s e) (is-tree t q d f) =
        absurd (goes_nowhere i s (d.kind, d.kids, d.derived))
    outcomes_are_one bad a b (ends-at-bad c p d e) (stops-at-leaf j t f) = absurd (goes_nowhere j t d)
    outcomes_are_one bad a b (ends-at-bad c p d e) (ends-at-bad c' q d' f) =
        e ∙ (ap (λ (x : Bad). Err (refused_at bytes x.byte x.cause)) (bad_is c c' bad p q) ∙ sym f)
    outcomes_are_one bad a b (ends-at-bad c p d e) (is-too-deep j q d' f) = absurd (no_bad c bad p q)
    outcomes_are_one bad a b (ends-at-bad c p d e) (is-tree t q d' f) = absurd (no_bad c bad p q)
    outcomes_are_one bad a b (is-too-deep i p d e) (stops-at-leaf j t f) =
        absurd (goes_nowhere j t (d.kind, d.kids, d.derived))
    outcomes_are_one bad a b (is-too-deep i p d e) (ends-at-bad c q d' f) = absurd (no_bad c bad q p)
    outcomes_are_one bad a b (is-too-deep i p d e) (is-too-deep j q d' f) =
        e ∙ (ap (λ (k : ℕ). Err (refused_at bytes (begin_of bytes leaves k) TooDeep)) (one_deep i j d d') ∙ sym f)
    outcomes_are_one bad a b (is-too-deep i p d e) (is-tree t q d' f) = absurd (not_both i t d d')
    outcomes_are_one bad a b (is-tree t p d e) (stops-at-leaf j s f) =
        absurd (goes_nowhere j s (d.kind, d.kids, d.derived))
    outcomes_are_one bad a b (is-tree t p d e) (ends-at-bad c q d' f) = absurd (no_bad c bad q p)
    outcomes_are_one bad a b (is-tree t p d e) (is-too-deep j q d' f) = absurd (not_both j t d' d)
    outcomes_are_one bad a b (is-tree t p d e) (is-tree u q d' f) = e ∙ (ap Ok (one_derived t u d d') ∙ sym f)

-- Where a text is cut in one way, one thing comes of it.
pub readings_are_one :
    (cut : List Leaf → Option Bad → Type 0)
    → ((leaves others : List Leaf) (bad worse : Option Bad) → cut leaves bad → cut others worse
    → (leaves ≡ others) × (bad ≡ worse))
    → (rules : List Parts) → IsSound rules → (start : ℕ) (bytes : List ℕ) (a b : Result Arena Refused)
    → IsRead cut rules start bytes a → IsRead cut rules start bytes b → a ≡ b
readings_are_one cut only rules sound start bytes a b (is-too-large h e) (is-too-large k f) = e ∙ sym f
readings_are_one cut only rules sound start bytes a b (is-too-large h e) (is-cut leaves bad k c o) =
    absurd (omega (arith, h, k))
readings_are_one cut only rules sound start bytes a b (is-cut leaves bad k c o) (is-too-large h e) =
    absurd (omega (arith, h, k))
readings_are_one cut only rules sound start bytes a b (is-cut leaves bad k c o) (is-cut others worse l d p) =
    let same = only leaves others bad worse c d in
    let by_leaves = subst (λ (ls : List Leaf). IsOutcome rules start bytes ls bad a) same.0 o in
    let by_both = subst (λ (x : Option Bad). IsOutcome rules start bytes others x a) same.1 by_leaves in
    outcomes_are_one rules sound start others bytes worse a b by_both p
