-- The rule gives the choice, and there is one choice.
use Rattle.std.proofs.Common.{◌≡◌, ◌∙◌, sym, ap, subst, refl, ℕ, ◌≤◌, List, Option, Some, None, arith, inl, inr}
use Rattle.dialogue.specs.Dialogue.{In, run, bind, done}
use Rattle.dialogue.specs.DialogueLaws.{run-bind}
use Rattle.jtypes.specs.World.{World, Rule}
use Rattle.jtypes.specs.declared.signatures.MethodSig.{MethodSig}
use Rattle.j_overload.specs.Rules.{choice_in, choice_of, unless_chosen}
use Rattle.j_overload.specs.Choices.{AppliesAt, NoneApplies, Decides, MostSpecific, Chosen, method, none_applies, none_most_specific, unequal, before}
use Rattle.j_overload.specs.declared.argument.ArgType.{ArgType}
use Rattle.j_overload.specs.declared.choice.Choice.{Choice}
use Rattle.j_overload.specs.declared.choice.Choice.TheVariants.{Method, None as NoMethod}
use Rattle.j_overload.specs.declared.phase.Phase.{Phase}
use Rattle.j_overload.specs.declared.phase.Phase.TheVariants.{Strict, Loose, Variable}
use Rattle.j_overload.proofs.Phases.{phase_none, phase_has, phase_some}

when_some : (d : Rule (Option Choice)) (e : Rule Choice) (w : World) (x : Choice) → run d w ≡ Some x → x ≡ run (bind d (unless_chosen e)) w
when_some d e w x h = sym (run-bind d (unless_chosen e) w ∙ ap (λ o. run (unless_chosen e o) w) h)

when_none : (d : Rule (Option Choice)) (e : Rule Choice) (w : World) → run d w ≡ None → run e w ≡ run (bind d (unless_chosen e)) w
when_none d e w h = sym (run-bind d (unless_chosen e) w ∙ ap (λ o. run (unless_chosen e o) w) h)

module _ (w : World) (cs : List MethodSig) (args : List ArgType) where
  abbrev last_rule : Rule Choice
  last_rule = bind (choice_in Variable args cs) (unless_chosen (done NoMethod))

  abbrev later_rule : Rule Choice
  later_rule = bind (choice_in Loose args cs) (unless_chosen last_rule)

  strict_first : (p : Phase) → In p (before Strict) → NoneApplies w cs args p
  strict_first p i = absurd i

  loose_next : NoneApplies w cs args Strict → (p : Phase) → In p (before Loose) → NoneApplies w cs args p
  loose_next n p (inl e) = subst (NoneApplies w cs args) (sym e) n
  loose_next n p (inr i) = absurd i

  variable_last : NoneApplies w cs args Strict → NoneApplies w cs args Loose → (p : Phase) → In p (before Variable) → NoneApplies w cs args p
  variable_last n l p (inl e) = subst (NoneApplies w cs args) (sym e) n
  variable_last n l p (inr (inl e)) = subst (NoneApplies w cs args) (sym e) l
  variable_last n l p (inr (inr i)) = absurd i

  no_phase : NoneApplies w cs args Strict → NoneApplies w cs args Loose → NoneApplies w cs args Variable → (p : Phase) → NoneApplies w cs args p
  no_phase n l v Strict = n
  no_phase n l v Loose = l
  no_phase n l v Variable = v

  by_variable : (o : Option Choice) → run (choice_in Variable args cs) w ≡ o → NoneApplies w cs args Strict → NoneApplies w cs args Loose → Chosen w cs args (run last_rule w)
  by_variable (Some x) h n l = subst (Chosen w cs args) (when_some (choice_in Variable args cs) (done NoMethod) w x h) (phase_some w cs args Variable x h record { earlier = variable_last n l; has_one = phase_has w cs args Variable x h })
  by_variable None h n l = subst (Chosen w cs args) (when_none (choice_in Variable args cs) (done NoMethod) w h) (none_applies (no_phase n l (phase_none w cs args Variable h)))

  by_loose : (o : Option Choice) → run (choice_in Loose args cs) w ≡ o → NoneApplies w cs args Strict → Chosen w cs args (run later_rule w)
  by_loose (Some x) h n = subst (Chosen w cs args) (when_some (choice_in Loose args cs) last_rule w x h) (phase_some w cs args Loose x h record { earlier = loose_next n; has_one = phase_has w cs args Loose x h })
  by_loose None h n = subst (Chosen w cs args) (when_none (choice_in Loose args cs) last_rule w h) (by_variable (run (choice_in Variable args cs) w) refl n (phase_none w cs args Loose h))

  by_strict : (o : Option Choice) → run (choice_in Strict args cs) w ≡ o → Chosen w cs args (run (bind (choice_in Strict args cs) (unless_chosen later_rule)) w)
  by_strict (Some x) h = subst (Chosen w cs args) (when_some (choice_in Strict args cs) later_rule w x h) (phase_some w cs args Strict x h record { earlier = strict_first; has_one = phase_has w cs args Strict x h })
  by_strict None h = subst (Chosen w cs args) (when_none (choice_in Strict args cs) later_rule w h) (by_loose (run (choice_in Loose args cs) w) refl (phase_none w cs args Strict h))

  pub chosen_by_rule : Chosen w cs args (run (choice_of cs args) w)
  unfolding choice_of
  chosen_by_rule = by_strict (run (choice_in Strict args cs) w) refl

  clash : {P : Type 0} (p : Phase) → NoneApplies w cs args p → (i : ℕ) × ((m : MethodSig) × AppliesAt w cs args p i m) → P
  clash p n (i, (m, a)) = absurd (n i m a)

  one_phase : (p q : Phase) → Decides w cs args p → Decides w cs args q → p ≡ q
  one_phase Strict Strict d e = refl
  one_phase Strict Loose d e = clash Strict (e.earlier Strict (inl refl)) d.has_one
  one_phase Strict Variable d e = clash Strict (e.earlier Strict (inl refl)) d.has_one
  one_phase Loose Strict d e = clash Strict (d.earlier Strict (inl refl)) e.has_one
  one_phase Loose Loose d e = refl
  one_phase Loose Variable d e = clash Loose (e.earlier Loose (inr (inl refl))) d.has_one
  one_phase Variable Strict d e = clash Strict (d.earlier Strict (inl refl)) e.has_one
  one_phase Variable Loose d e = clash Loose (d.earlier Loose (inr (inl refl))) e.has_one
  one_phase Variable Variable d e = refl

  moved : (p q : Phase) (i : ℕ) (m : MethodSig) → Decides w cs args p → Decides w cs args q → MostSpecific w cs args p i m → MostSpecific w cs args q i m
  moved p q i m d e s = subst (λ r. MostSpecific w cs args r i m) (one_phase p q d e) s

  first_one : (i j : ℕ) → i ≤ j → j ≤ i → Method i ≡ Method j
  first_one i j h l = ap Method (omega arith)

  pub one_choice : (c d : Choice) → Chosen w cs args c → Chosen w cs args d → c ≡ d
  one_choice _ _ (method p i m d s f) (method q j n e t g) = first_one i j ((f j n (moved q p j n e d t)).0) ((g i m (moved p q i m d e s)).0)
  one_choice _ _ (method p i m d s f) (none_applies g) = clash p (g p) d.has_one
  one_choice _ _ (method p i m d s f) (none_most_specific q e g) = absurd (g i m (moved p q i m d e s))
  one_choice _ _ (method p i m d s f) (unequal q j k n o e t u g) = absurd (g (sym ((f j n (moved q p j n e d t)).1) ∙ (f k o (moved q p k o e d u)).1))
  one_choice _ _ (none_applies f) (method q j n e t g) = clash q (f q) e.has_one
  one_choice _ _ (none_applies f) (none_applies g) = refl
  one_choice _ _ (none_applies f) (none_most_specific q e g) = clash q (f q) e.has_one
  one_choice _ _ (none_applies f) (unequal q j k n o e t u g) = clash q (f q) e.has_one
  one_choice _ _ (none_most_specific p d f) (method q j n e t g) = absurd (f j n (moved q p j n e d t))
  one_choice _ _ (none_most_specific p d f) (none_applies g) = clash p (g p) d.has_one
  one_choice _ _ (none_most_specific p d f) (none_most_specific q e g) = refl
  one_choice _ _ (none_most_specific p d f) (unequal q j k n o e t u g) = refl
  one_choice _ _ (unequal p i j m n d s t f) (method q k o e u g) = absurd (f (sym ((g i m (moved p q i m d e s)).1) ∙ (g j n (moved p q j n d e t)).1))
  one_choice _ _ (unequal p i j m n d s t f) (none_applies g) = clash p (g p) d.has_one
  one_choice _ _ (unequal p i j m n d s t f) (none_most_specific q e g) = refl
  one_choice _ _ (unequal p i j m n d s t f) (unequal q k l o r e u v g) = refl
