-- The sets of one phase, and the choice that it makes.
use Rattle.std.proofs.Common.{◌≡◌, ◌∙◌, sym, ap, subst, refl, ℕ, ◌+◌, ◌≤◌, List, [], ◌∷◌, length, filter, Bool, true, false, Option, Some, None, slice_get, arith, if◌then◌else◌, inl, inr}
use Rattle.std.specs.List.{list_all, enumerate_from}
use Rattle.std.proofs.lemmas.Bool.Decides.{eqb_tells}
use Rattle.dialogue.specs.Dialogue.{In, run, done}
use Rattle.dialogue.specs.DialogueLaws.{run-bind}
use Rattle.jtypes.proofs.Equality.{true_false}
use Rattle.jtypes.specs.World.{World}
use Rattle.jtypes.specs.declared.signatures.MethodSig.{MethodSig}
use Rattle.j_overload.specs.TestEach.{all_of}
use Rattle.j_overload.specs.Parameters.{takes_number}
use Rattle.j_overload.specs.Rules.{applicable, applicable_ones, more_specific, most_specific_ones, types_eq, first_of_equals, choice_among, choice_in}
use Rattle.j_overload.specs.Choices.{AppliesAt, NoneApplies, Decides, MostSpecific, Chosen, method, none_most_specific, unequal}
use Rattle.j_overload.specs.declared.argument.ArgType.{ArgType}
use Rattle.j_overload.specs.declared.choice.Choice.{Choice}
use Rattle.j_overload.specs.declared.choice.Choice.TheVariants.{Method, Ambiguous}
use Rattle.j_overload.specs.declared.phase.Phase.{Phase}
use Rattle.j_overload.proofs.Testing.{run-all, run-those}
use Rattle.j_overload.proofs.Fitting.{applicable_true, applicable_all, specific_true, specific_all, specific_same, number_all}
use Rattle.j_overload.proofs.Equals.{types_eq_true, types_eq_same}
use Rattle.j_overload.proofs.Members.{of_filter, to_filter, all_in, in_all, one_fails, of_numbered, to_numbered, Ordered, ordered_numbers, ordered_filter}

same_some : {A : Type 0} (o : Option A) (x y : A) → o ≡ Some x → o ≡ Some y → x ≡ y
same_some o x y e f = cc

module _ (w : World) (cs : List MethodSig) (args : List ArgType) (phase : Phase) where
  abbrev applies : ℕ × MethodSig → Bool
  applies c = run (applicable phase args c.1) w

  abbrev ones : List (ℕ × MethodSig)
  ones = filter applies (enumerate_from 0 cs)

  run-ones : run (applicable_ones phase args cs) w ≡ ones
  unfolding applicable_ones
  run-ones = run-those (λ c. applicable phase args c.1) (enumerate_from 0 cs) w

  of_ones : (c : ℕ × MethodSig) → In c ones → AppliesAt w cs args phase c.0 c.1
  of_ones c h =
      let f = of_filter applies c (enumerate_from 0 cs) h in
      let n = of_numbered cs 0 c.0 c.1 f.0 in
      let e : n.0 ≡ c.0 = let g : c.0 ≡ 0 + n.0 = n.1.0 in omega arith in
      record { there = subst (λ i. slice_get cs i ≡ Some c.1) e n.1.1; applies = applicable_true w phase args c.1 f.1 }

  to_ones : (i : ℕ) (m : MethodSig) → AppliesAt w cs args phase i m → In (i, m) ones
  to_ones i m a =
      let e : 0 + i ≡ i = omega arith in
      to_filter applies (i, m) (enumerate_from 0 cs) (subst (λ j. In (j, m) (enumerate_from 0 cs)) e (to_numbered cs 0 i m a.there)) (applicable_all w phase args m a.applies)

  takes : (i : ℕ) (m : MethodSig) → AppliesAt w cs args phase i m → takes_number phase m (length args) ≡ true
  takes i m a = number_all phase m (length args) a.applies.number

  abbrev above : ℕ × MethodSig → ℕ × MethodSig → Bool
  above c d = run (more_specific phase (length args) c.1 d.1) w

  abbrev is_best : ℕ × MethodSig → Bool
  is_best c = run (all_of (λ d. more_specific phase (length args) c.1 d.1) ones) w

  run-best : run (most_specific_ones phase (length args) ones) w ≡ filter is_best ones
  unfolding most_specific_ones
  run-best = run-those (λ c. all_of (λ d. more_specific phase (length args) c.1 d.1) ones) ones w

  of_best : (c : ℕ × MethodSig) → In c (filter is_best ones) → MostSpecific w cs args phase c.0 c.1
  of_best c h =
      let f = of_filter is_best c ones h in
      let a = of_ones c f.0 in
      let t : list_all (above c) ones ≡ true = sym (run-all (λ d. more_specific phase (length args) c.1 d.1) ones w) ∙ f.1 in
      record {
        applies = a;
        above = λ j n apart b. specific_true w phase (length args) c.1 n (takes c.0 c.1 a) (takes j n b) (all_in (above c) (j, n) ones t (to_ones j n b));
      }

  to_best : (i : ℕ) (m : MethodSig) → MostSpecific w cs args phase i m → In (i, m) (filter is_best ones)
  to_best i m s = to_filter is_best (i, m) ones (to_ones i m s.applies) (run-all (λ d. more_specific phase (length args) m d.1) ones w ∙ in_all (above (i, m)) ones over)
    where
      over : (d : ℕ × MethodSig) → In d ones → above (i, m) d ≡ true
      over d h =
          let b = of_ones d h in
          elim (eqb_tells d.0 i) [
            | inl t ↦
                let e : m ≡ d.1 = same_some (slice_get cs i) m d.1 s.applies.there (subst (λ j. slice_get cs j ≡ Some d.1) t.1 b.there) in
                subst (λ n. run (more_specific phase (length args) m n) w ≡ true) e (specific_all w phase (length args) m m (specific_same w phase (length args) m))
            | inr t ↦ specific_all w phase (length args) m d.1 (s.above d.0 d.1 t.1 b)
          ]

  best_ordered : Ordered (filter is_best ones)
  best_ordered = ordered_filter is_best ones (ordered_filter applies (enumerate_from 0 cs) (ordered_numbers cs 0))

  -- the choice among the most specific ones
  chosen_of : (best : List (ℕ × MethodSig)) → best ≡ filter is_best ones → Decides w cs args phase → Chosen w cs args (first_of_equals best)
  chosen_of [] e d = none_most_specific phase d (λ i m s. subst (In (i, m)) (sym e) (to_best i m s))
  chosen_of (c ∷ rest) e d = by_test (list_all (λ n. types_eq c.1.params n.1.params) rest) refl
    where
      first : MostSpecific w cs args phase c.0 c.1
      first = of_best c (subst (In c) e (inl refl))

      ordered : Ordered (c ∷ rest)
      ordered = subst Ordered (sym e) best_ordered

      from_first : list_all (λ n. types_eq c.1.params n.1.params) rest ≡ true → (j : ℕ) (n : MethodSig) → In (j, n) (c ∷ rest) → (c.0 ≤ j) × (c.1.params ≡ n.params)
      from_first t j n (inl k) = let f : j ≡ c.0 = ap (λ x. x.0) k in (omega arith, ap (λ x. x.1.params) (sym k))
      from_first t j n (inr k) = (ordered.0 (j, n) k, types_eq_true c.1.params n.params (all_in (λ n. types_eq c.1.params n.1.params) (j, n) rest t k))

      by_test : (b : Bool) → list_all (λ n. types_eq c.1.params n.1.params) rest ≡ b → Chosen w cs args (if b then Method c.0 else Ambiguous)
      by_test true t = method phase c.0 c.1 d first (λ j n s. from_first t j n (subst (In (j, n)) (sym e) (to_best j n s)))
      by_test false t =
          let r = one_fails (λ n. types_eq c.1.params n.1.params) rest t in
          unequal phase c.0 r.0.0 c.1 r.0.1 d first (of_best r.0 (subst (In r.0) e (inr r.1.0)))
          (λ k. true_false (sym (subst (λ ts. types_eq c.1.params ts ≡ true) k (types_eq_same c.1.params)) ∙ r.1.1))

  run-choice : run (choice_in phase args cs) w ≡ run (choice_among phase (length args) ones) w
  unfolding choice_in
  run-choice = run-bind (applicable_ones phase args cs) (choice_among phase (length args)) w ∙ ap (λ ms. run (choice_among phase (length args) ms) w) run-ones

  run-among : (c : ℕ × MethodSig) (ms : List (ℕ × MethodSig)) → run (choice_among phase (length args) (c ∷ ms)) w ≡ Some (first_of_equals (run (most_specific_ones phase (length args) (c ∷ ms)) w))
  run-among c ms = run-bind (most_specific_ones phase (length args) (c ∷ ms)) (λ best. done (Some (first_of_equals best))) w

  none_some : {P : Type 0} {A : Type 0} (x : A) → None ≡ Some x → P
  none_some x h = cc

  pub phase_none : run (choice_in phase args cs) w ≡ None → NoneApplies w cs args phase
  phase_none h = by_ones ones refl (sym run-choice ∙ h)
    where
      by_ones : (ms : List (ℕ × MethodSig)) → ones ≡ ms → run (choice_among phase (length args) ms) w ≡ None → NoneApplies w cs args phase
      by_ones [] e k = λ i m a. subst (In (i, m)) e (to_ones i m a)
      by_ones (c ∷ ms) e k = none_some _ (sym k ∙ run-among c ms)

  pub phase_has : (x : Choice) → run (choice_in phase args cs) w ≡ Some x → (i : ℕ) × ((m : MethodSig) × AppliesAt w cs args phase i m)
  phase_has x h = by_ones ones refl (sym run-choice ∙ h)
    where
      by_ones : (ms : List (ℕ × MethodSig)) → ones ≡ ms → run (choice_among phase (length args) ms) w ≡ Some x → (i : ℕ) × ((m : MethodSig) × AppliesAt w cs args phase i m)
      by_ones [] e k = none_some x k
      by_ones (c ∷ ms) e k = (c.0, (c.1, of_ones c (subst (In c) (sym e) (inl refl))))

  pub phase_some : (x : Choice) → run (choice_in phase args cs) w ≡ Some x → Decides w cs args phase → Chosen w cs args x
  phase_some x h d = by_ones ones refl (sym run-choice ∙ h)
    where
      chosen : Chosen w cs args (first_of_equals (run (most_specific_ones phase (length args) ones) w))
      chosen = chosen_of (run (most_specific_ones phase (length args) ones) w) run-best d

      by_ones : (ms : List (ℕ × MethodSig)) → ones ≡ ms → run (choice_among phase (length args) ms) w ≡ Some x → Chosen w cs args x
      by_ones [] e k = none_some x k
      by_ones (c ∷ ms) e k =
          let f = subst (λ ns. Chosen w cs args (first_of_equals (run (most_specific_ones phase (length args) ns) w))) e chosen in
          let g : Some (first_of_equals (run (most_specific_ones phase (length args) (c ∷ ms)) w)) ≡ Some x = sym (run-among c ms) ∙ k in
          let l : first_of_equals (run (most_specific_ones phase (length args) (c ∷ ms)) w) ≡ x = cc in
          subst (Chosen w cs args) l f
