-- The choice of one phase and of all three, from what their parts give and ask.
use Rattle.std.proofs.Common.{◌≡◌, ◌∙◌, sym, ap, subst, refl, ℕ, List, [], ◌∷◌, length, Option, None, Some, All}
use Rattle.dialogue.specs.Dialogue.{done, bind}
use Rattle.dialogue.specs.Told.{Told}
use Rattle.dialogue.specs.ToldLaws.{told_done, told_bind}
use Rattle.jtypes.specs.World.{World, Rule, Answer}
use Rattle.jtypes.specs.declared.ask.Ask.{Ask}
use Rattle.jtypes.specs.declared.signatures.MethodSig.{MethodSig}
use Rattle.j_overload.specs.Picked.{candidates_at, TakesAt}
use Rattle.j_overload.specs.Rules.{applicable_ones, most_specific_ones, first_of_equals, choice_among, choice_in, unless_chosen}
use Rattle.j_overload.specs.declared.argument.ArgType.{ArgType}
use Rattle.j_overload.specs.declared.choice.Choice.{Choice}
use Rattle.j_overload.specs.declared.phase.Phase.{Phase}
use Rattle.j_overload.proofs.Picks.{candidates_at-none, picks_some}

pub told_none_applies : (phase : Phase) (args : List ArgType) (cs : List MethodSig) (w : World) (s s' : List Ask) (places : List ℕ) → Told (applicable_ones phase args cs) w s s' (candidates_at cs places) → places ≡ [] → Told (choice_in phase args cs) w s s' None
unfolding choice_in
told_none_applies phase args cs w s s' places h e =
    told_bind (applicable_ones phase args cs) (choice_among phase (length args)) w s s' s' (candidates_at cs places) None h
    (subst (λ ms. Told (choice_among phase (length args) ms) w s' s' None) (sym (ap (candidates_at cs) e ∙ candidates_at-none cs)) (told_done w s' None))

told_among : (phase : Phase) (k : ℕ) (w : World) (s s' : List Ask) (ms best : List (ℕ × MethodSig)) (r : Choice) → (ms ≡ [] → ⊥) → Told (most_specific_ones phase k ms) w s s' best → r ≡ first_of_equals best → Told (choice_among phase k ms) w s s' (Some r)
told_among phase k w s s' [] best r n h e = absurd (n refl)
told_among phase k w s s' (m ∷ ms) best r n h e =
    told_bind (most_specific_ones phase k (m ∷ ms)) (λ best. done (Some (first_of_equals best))) w s s' s' best (Some r) h
    (subst (λ x. Told {Q = Ask} {R = Answer} (done (Some (first_of_equals best))) w s' s' (Some x)) (sym e) (told_done w s' (Some (first_of_equals best))))

pub told_choice : (phase : Phase) (args : List ArgType) (cs : List MethodSig) (w : World) (s s' s'' : List Ask) (places best : List ℕ) (r : Choice) → Told (applicable_ones phase args cs) w s s' (candidates_at cs places) → (places ≡ [] → ⊥) → All (TakesAt cs phase (length args)) places → Told (most_specific_ones phase (length args) (candidates_at cs places)) w s' s'' (candidates_at cs best) → r ≡ first_of_equals (candidates_at cs best) → Told (choice_in phase args cs) w s s'' (Some r)
unfolding choice_in
told_choice phase args cs w s s' s'' places best r h n t k e =
    told_bind (applicable_ones phase args cs) (choice_among phase (length args)) w s s' s'' (candidates_at cs places) (Some r) h
    (told_among phase (length args) w s' s'' (candidates_at cs places) (candidates_at cs best) r (picks_some cs phase (length args) places n t) k e)

-- a phase has made the choice
pub told_chosen : (d : Rule (Option Choice)) (otherwise : Rule Choice) (w : World) (s s' : List Ask) (o : Option Choice) (c : Choice) → Told d w s s' o → o ≡ Some c → Told (bind d (unless_chosen otherwise)) w s s' c
told_chosen d otherwise w s s' o c h e = told_bind d (unless_chosen otherwise) w s s' s' (Some c) c (subst (λ x. Told d w s s' x) e h) (told_done w s' c)

-- a phase has no applicable candidate
pub told_passed : (d : Rule (Option Choice)) (otherwise : Rule Choice) (w : World) (s s' s'' : List Ask) (o : Option Choice) (c : Choice) → Told d w s s' o → o ≡ None → Told otherwise w s' s'' c → Told (bind d (unless_chosen otherwise)) w s s'' c
told_passed d otherwise w s s' s'' o c h e k = told_bind d (unless_chosen otherwise) w s s' s'' None c (subst (λ x. Told d w s s' x) e h) k
