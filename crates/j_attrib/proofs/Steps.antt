-- A rule, and behind it a judgement by what it gave.
use Rattle.std.proofs.Common.{List, refl}
use Rattle.dialogue.specs.Told.{Told}
use Rattle.jtypes.specs.World.{World, Rule}
use Rattle.jtypes.specs.declared.ask.Ask.{Ask}
use Rattle.judging.specs.Judging.{Judging, looking, Judged}
use Rattle.judging.specs.JudgingLaws.{judged_looking}
use Rattle.judging.specs.declared.log.Log.{Log}

-- the log after the questions of a rule, which notes nothing
abbrev pub after : Log → List Ask → Log
after old asks = record { notes = old.notes; asks = asks }

pub looked : {X A : Type 0} (d : Rule X) (f : X → Judging A) (w : World) (old new : Log) (mid : List Ask) (x : X) (y : A)
    → Told d w old.asks mid x → Judged (f x) w (after old mid) new y → Judged (looking d f) w old new y
looked d f w old new mid x y h k = judged_looking d f w old (after old mid) new x y h refl k
