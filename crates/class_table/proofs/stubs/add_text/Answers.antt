use Rattle.std.proofs.Common.{◌∙◌, refl, ap}
use Rattle.std.specs.Prelude.{Err}
use Rattle.class_table.proofs.Added.{accepted_adds, refused_adds}
use Rattle.class_table.proofs.stubs.add_text.Goals as goal

pub returns-in_ok-add_declared-in-Ok : goal.returns-in_ok-add_declared-in-Ok
returns-in_ok-add_declared-in-Ok g c =
    accepted_adds c.args.text.now _ _ c.in-Ok.tree c.in-Ok.ensures.tree c.in_ok-add_declared-in-Ok.ensures

pub returns-in-Err-Refused : goal.returns-in-Err-Refused
returns-in-Err-Refused g c =
    refused_adds c.args.text.now _ _ _
    (c.read.ensures.refused _ (c.in-Err-Refused.is ∙ ap Err c.in-Err-Refused.field-0-is)) refl
