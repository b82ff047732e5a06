-- The test of one candidate, by the number that it takes.
use Rattle.std.proofs.Common.{◌≡◌, refl, List, length, Bool, true, false, if◌then◌else◌}
use Rattle.std.specs.List.{zip}
use Rattle.dialogue.specs.Dialogue.{done, run}
use Rattle.dialogue.specs.Told.{Told}
use Rattle.dialogue.specs.ToldLaws.{told_done}
use Rattle.jtypes.specs.World.{World, Rule}
use Rattle.jtypes.specs.declared.ask.Ask.{Ask}
use Rattle.jtypes.specs.declared.signatures.MethodSig.{MethodSig}
use Rattle.j_overload.specs.TestEach.{all_of}
use Rattle.j_overload.specs.Parameters.{parameter_types, takes_number}
use Rattle.j_overload.specs.Rules.{applicable, argument_fit}
use Rattle.j_overload.specs.declared.argument.ArgType.{ArgType}
use Rattle.j_overload.specs.declared.phase.Phase.{Phase}

by_false : (b : Bool) (d : Rule Bool) (w : World) (s : List Ask) → b ≡ false → Told (if b then d else done false) w s s false
by_false b d w s e = rw e (told_done w s false)

by_true : (b : Bool) (d : Rule Bool) (w : World) (s s' : List Ask) (r : Bool) → b ≡ true → Told d w s s' r → Told (if b then d else done false) w s s' r
by_true b d w s s' r e h = rw e h

pub told_wrong_number : (phase : Phase) (args : List ArgType) (m : MethodSig) (w : World) (s : List Ask) → takes_number phase m (length args) ≡ false → Told (applicable phase args m) w s s false
unfolding applicable
told_wrong_number phase args m w s e = by_false (takes_number phase m (length args)) _ w s e

pub told_right_number : (phase : Phase) (args : List ArgType) (m : MethodSig) (w : World) (s s' : List Ask) (r : Bool) → takes_number phase m (length args) ≡ true → Told (all_of (λ t. argument_fit phase t.0 t.1) (zip args (parameter_types phase m (length args)))) w s s' r → Told (applicable phase args m) w s s' r
unfolding applicable
told_right_number phase args m w s s' r e h = by_true (takes_number phase m (length args)) _ w s s' r e h

by_number : (b : Bool) (d : Rule Bool) (w : World) → run (if b then d else done false) w ≡ true → b ≡ true
by_number true d w h = refl
by_number false d w h = h

pub applicable_takes : (phase : Phase) (args : List ArgType) (m : MethodSig) (w : World) → run (applicable phase args m) w ≡ true → takes_number phase m (length args) ≡ true
unfolding applicable
applicable_takes phase args m w h = by_number (takes_number phase m (length args)) _ w h
