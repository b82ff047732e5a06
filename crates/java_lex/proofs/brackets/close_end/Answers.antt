use Rattle.std.proofs.Common.{◌+◌, subst, arith}
use Rattle.java_lex.specs.Segments.{class_at}
use Rattle.java_lex.specs.KnownBrackets.{OneClose, ToldClose}
use Rattle.java_lex.proofs.BracketSteps.{close_here, close_next, close_behind, closes_end, closed_inside, told_close}
use Rattle.java_lex.proofs.brackets.close_end.Goals as goal

pub returns-in-54 : goal.returns-in-54
returns-in-54 c = close_here (class_at c.args.leaves.now) c.args.at (omega (arith, c.in-54.is))

pub returns-then-end-leaves : goal.returns-then-end-leaves
returns-then-end-leaves c =
    let one : OneClose (class_at c.args.leaves.now) (c.args.at + 1) c.in-Some.end = (subst (ToldClose (class_at c.args.leaves.now) (c.args.at + 1)) c.in-Some.is (told_close (class_at c.args.leaves.now) c.args.at c.args.brackets.now c.requires.known (c.args.at + 1) c.brackets_at.result (omega arith) c.brackets_at.ensures)) in
    close_behind (class_at c.args.leaves.now) c.args.at c.in-Some.end c.brackets_at-then-end-leaves.result.close (omega (arith, c.in-53.is)) one
    (told_close (class_at c.args.leaves.now) c.args.at c.args.brackets.now c.requires.known (c.in-Some.end + 1) c.brackets_at-then-end-leaves.result (closes_end (class_at c.args.leaves.now) c.args.at c.in-Some.end one) c.brackets_at-then-end-leaves.ensures)

pub returns-else-end-leaves : goal.returns-else-end-leaves
returns-else-end-leaves c = absurd (closed_inside c.args.leaves.now (c.args.at + 1) c.in-Some.end (subst (ToldClose (class_at c.args.leaves.now) (c.args.at + 1)) c.in-Some.is (told_close (class_at c.args.leaves.now) c.args.at c.args.brackets.now c.requires.known (c.args.at + 1) c.brackets_at.result (omega arith) c.brackets_at.ensures)) (omega arith))

pub returns-in_default : goal.returns-in_default
returns-in_default c =
    close_next (class_at c.args.leaves.now) c.args.at c.brackets_at-in_default.result.close (omega arith) (omega arith)
    (told_close (class_at c.args.leaves.now) c.args.at c.args.brackets.now c.requires.known (c.args.at + 1) c.brackets_at-in_default.result (omega arith) c.brackets_at-in_default.ensures)
