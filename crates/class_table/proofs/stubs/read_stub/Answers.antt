use Rattle.std.proofs.Common.{◌∙◌, sym, ap}
use Rattle.std.specs.Prelude.{Err}
use Rattle.class_table.proofs.Added.{ok_apart, err_or}
use Rattle.class_table.proofs.stubs.read_stub.Goals as goal

pub returns-in_ok-skeleton-in-Ok-clause-steps : goal.returns-in_ok-skeleton-in-Ok-clause-steps
returns-in_ok-skeleton-in-Ok-clause-steps g c = λ _.
    c.read.ensures.steps (λ e. ok_apart c.read.result c.in-Ok.tree _ c.in-Ok.is e)

pub returns-in-Err-clause-refused : goal.returns-in-Err-clause-refused
returns-in-Err-clause-refused g c = λ r e.
    c.read.ensures.refused r (c.in-Err.is ∙ ap Err (ap (err_or c.in-Err.fault) e))

pub returns-in-Err-clause-steps : goal.returns-in-Err-clause-steps
returns-in-Err-clause-steps g c = λ ne.
    c.read.ensures.steps (λ e. ne (ap Err (ap (err_or c.in-Err.fault) (sym c.in-Err.is ∙ e))))
