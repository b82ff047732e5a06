-- Rules that give a value, note what they find, and ask: judgements.
use Rattle.std.specs.Prelude.{◌≡◌, List, [], ◌++◌}
use Rattle.dialogue.specs.Dialogue.{done, bind}
use Rattle.dialogue.specs.Told.{Told}
use Rattle.jtypes.specs.World.{Rule, World}
use Rattle.judging.specs.declared.log.Log.{Log}
use Rattle.judging.specs.declared.log.Note.{Note}

-- what a judgement gives: a value, and what it notes, in order
pub record Found (A : Type 0) : Type 0 where
  pub value : A
  pub notes : List Note

abbrev pub Judging : Type 0 → Type 0
Judging A = Rule (Found A)

-- it gives a value, and notes nothing or some notes
abbrev pub give : {A : Type 0} → A → Judging A
give a = done (record { value = a; notes = [] })

abbrev pub noting : {A : Type 0} → List Note → A → Judging A
noting ns a = done (record { value = a; notes = ns })

-- a judgement, and then another by the value of the first; the notes of both
abbrev pub and_then : {A B : Type 0} → Judging A → (A → Judging B) → Judging B
and_then d f = bind d (λ x. bind (f x.value) (λ y. done (record { value = y.value; notes = x.notes ++ y.notes })))

-- a rule that notes nothing, and then a judgement by what it gives
abbrev pub looking : {A B : Type 0} → Rule A → (A → Judging B) → Judging B
looking d f = bind d f

-- a function that follows a judgement gives its value in the world, and puts its notes and its questions
pub record Judged {A : Type 0} (d : Judging A) (w : World) (old new : Log) (x : A) : Type 0 where
  pub noted : List Note
  pub told : Told d w old.asks new.asks (record { value = x; notes = noted })
  pub notes : new.notes ≡ old.notes ++ noted
