-- What the tests of one argument give.
use Rattle.std.proofs.Common.{◌≡◌, ◌∙◌, sym, ap, subst, refl, ℕ, List, [], ◌∷◌, Bool, true, false, Option, ◌⊎◌, inl, inr}
use Rattle.dialogue.specs.Dialogue.{done}
use Rattle.dialogue.specs.Told.{Told, Heard}
use Rattle.dialogue.specs.ToldLaws.{told_done, told_ask}
use Rattle.jtypes.specs.World.{World, Answer}
use Rattle.jtypes.specs.Fits.{strict_fit, loose_fit}
use Rattle.jtypes.specs.declared.ask.Ask.{Ask}
use Rattle.jtypes.specs.declared.ask.Ask.TheVariants.{Class as AskClass}
use Rattle.jtypes.specs.declared.signatures.Header.{Header}
use Rattle.jtypes.specs.declared.types.JType.{JType}
use Rattle.jtypes.specs.declared.types.JType.TheVariants.{Class, Unknown}
use Rattle.j_overload.specs.Rules.{function_fit, argument_fit, may_take_a_function}
use Rattle.j_overload.specs.declared.argument.ArgType.TheVariants.{Known, Function}
use Rattle.j_overload.specs.declared.phase.Phase.{Phase}
use Rattle.j_overload.specs.declared.phase.Phase.TheVariants.{Strict, Loose, Variable}

told_gives : (w : World) (s : List Ask) (x y : Bool) → x ≡ y → Told {Q = Ask} {R = Answer} (done y) w s s x
told_gives w s x y e = subst (λ z. Told {Q = Ask} {R = Answer} (done y) w s s z) (sym e) (told_done w s y)

-- a parameter of a class type is asked for
pub told_class : (w : World) (s s' : List Ask) (name : List ℕ) (header : Option Header) (r : Bool) → header ≡ w (AskClass name) → Heard s (AskClass name ∷ []) s' → r ≡ may_take_a_function header → Told (function_fit (Class name)) w s s' r
unfolding function_fit
told_class w s s' name header r is heard e =
    told_ask (AskClass name) (λ h. done (may_take_a_function h)) w s s' s' r heard (told_gives w s' r (may_take_a_function (w (AskClass name))) (e ∙ ap may_take_a_function is))

pub told_unknown : (w : World) (s : List Ask) → Told (function_fit Unknown) w s s true
unfolding function_fit
told_unknown w s = told_done w s true

pub told_no_function : (w : World) (s : List Ask) (t : JType) → ((name : List ℕ) → t ≡ Class name → ⊥) → (t ≡ Unknown → ⊥) → Told (function_fit t) w s s false
unfolding function_fit
told_no_function w s (Class name) h k = absurd (h name refl)
told_no_function w s Unknown h k = absurd (k refl)
told_no_function w s t h k = told_done w s false

pub told_strict : (w : World) (s s' : List Ask) (a t : JType) (r : Bool) → Told (strict_fit a t) w s s' r → Told (argument_fit Strict (Known a) t) w s s' r
unfolding argument_fit
told_strict w s s' a t r h = h

pub told_loose : (w : World) (s s' : List Ask) (phase : Phase) (a t : JType) (r : Bool) → (phase ≡ Loose) ⊎ (phase ≡ Variable) → Told (loose_fit a t) w s s' r → Told (argument_fit phase (Known a) t) w s s' r
unfolding argument_fit
told_loose w s s' Strict a t r (inl k) h = absurd (let f : Strict ≡ Loose = k in cc)
told_loose w s s' Strict a t r (inr k) h = absurd (let f : Strict ≡ Variable = k in cc)
told_loose w s s' Loose a t r k h = h
told_loose w s s' Variable a t r k h = h

pub told_function : (w : World) (s s' : List Ask) (phase : Phase) (t : JType) (r : Bool) → Told (function_fit t) w s s' r → Told (argument_fit phase Function t) w s s' r
unfolding argument_fit
told_function w s s' Strict t r h = h
told_function w s s' Loose t r h = h
told_function w s s' Variable t r h = h
