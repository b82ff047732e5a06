use Rattle.std.proofs.Common.{◌∙◌, ap}
use Rattle.std.specs.Prelude.{Err}
use Rattle.kept_files.proofs.Readings.{java_tree, java_refused, to_steps, from_steps, ok_apart, refused_apart}
use Rattle.kept_files.proofs.readers.read_as_java.Goals as goal

pub returns-in-Ok-clause-reading : goal.returns-in-Ok-clause-reading
returns-in-Ok-clause-reading g c = java_tree c.args.bytes.now c.in-Ok.tree c.in-Ok.ensures.tree

pub returns-in-Ok-clause-steps : goal.returns-in-Ok-clause-steps
returns-in-Ok-clause-steps g c =
    to_steps c.args.bytes.now c.args.steps.now c.read.new.steps
    (c.read.ensures.steps (λ e. ok_apart c.read.result c.in-Ok.tree _ c.in-Ok.is e))

pub returns-in-Ok-clause-at_most : goal.returns-in-Ok-clause-at_most
returns-in-Ok-clause-at_most g c = λ most s. c.read.ensures.at_most most (from_steps c.args.bytes.now c.args.steps.now most s)

pub returns-in-Err-Refused-clause-reading : goal.returns-in-Err-Refused-clause-reading
returns-in-Err-Refused-clause-reading g c =
    java_refused c.args.bytes.now c.in-Err-Refused.refused (c.read.ensures.refused c.in-Err-Refused.refused (c.in-Err-Refused.is ∙ ap Err c.in-Err-Refused.field-0-is))

pub returns-in-Err-Refused-clause-steps : goal.returns-in-Err-Refused-clause-steps
returns-in-Err-Refused-clause-steps g c =
    to_steps c.args.bytes.now c.args.steps.now c.read.new.steps
    (c.read.ensures.steps (λ e. refused_apart c.read.result c.in-Err-Refused.refused (c.in-Err-Refused.is ∙ ap Err c.in-Err-Refused.field-0-is) e))

pub returns-in-Err-Refused-clause-at_most : goal.returns-in-Err-Refused-clause-at_most
returns-in-Err-Refused-clause-at_most g c = λ most s. c.read.ensures.at_most most (from_steps c.args.bytes.now c.args.steps.now most s)

pub returns-in-Err-NoMemory-clause-at_most : goal.returns-in-Err-NoMemory-clause-at_most
returns-in-Err-NoMemory-clause-at_most g c = λ most s. c.read.ensures.at_most most (from_steps c.args.bytes.now c.args.steps.now most s)
