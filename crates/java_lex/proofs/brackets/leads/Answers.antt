use Rattle.std.proofs.Common.{◌+◌, inl, inr, arith}
use Rattle.java_lex.specs.Marks.{stops}
use Rattle.java_lex.specs.Segments.{class_at}
use Rattle.java_lex.proofs.BracketSteps.{goes_next, no_stop, told_leads}
use Rattle.java_lex.proofs.brackets.leads.Goals as goal
use Rattle.java_lex.proofs.BracketSteps.{no_open}

pub returns-in-59 : goal.returns-in-59
returns-in-59 c = stops (inl (omega (arith, c.in-59.is)))

pub returns-in-65 : goal.returns-in-65
returns-in-65 c = stops (inr (omega (arith, c.in-65.is)))

pub returns-in_default : goal.returns-in_default
returns-in_default c =
    goes_next (class_at c.args.leaves.now) c.args.at c.brackets_at.result.leads
    (no_stop (class_at c.args.leaves.now c.args.at) (omega arith) (omega arith) (omega arith) (omega arith) (omega arith) (omega arith))
    (λ m g. no_open (class_at c.args.leaves.now c.args.at) (class_at c.args.leaves.now m) (omega arith) (omega arith) g.0)
    (told_leads (class_at c.args.leaves.now) c.args.at c.args.brackets.now c.requires.known (c.args.at + 1) c.brackets_at.result (omega arith) c.brackets_at.ensures)
