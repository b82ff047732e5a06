use Rattle.std.specs.Prelude.{◌≢◌, All, take}
use Rattle.rw_base.specs.declared.edit.Edit.{Edit}
use Rattle.examples_texts.proofs.edits.is_free.Given as goal

abbrev pub invariant-loop-edit : goal.invariant-loop-edit
invariant-loop-edit l = All (λ (f : Edit). f.spot ≢ l.spot) (take l.edit-index l.edits)
