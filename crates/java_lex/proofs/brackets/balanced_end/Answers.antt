use Rattle.std.proofs.Common.{◌+◌, inl, inr, arith}
use Rattle.java_lex.specs.Segments.{class_at}
use Rattle.java_lex.proofs.BracketSteps.{level_here, level_next, no_bracket, told_level}
use Rattle.java_lex.proofs.brackets.balanced_end.Goals as goal

pub returns-in-54 : goal.returns-in-54
returns-in-54 c = level_here (class_at c.args.leaves.now) c.args.at (inl (omega (arith, c.in-54.is)))

pub returns-in-58 : goal.returns-in-58
returns-in-58 c = level_here (class_at c.args.leaves.now) c.args.at (inr (omega (arith, c.in-58.is)))

pub returns-in_default : goal.returns-in_default
returns-in_default c =
    level_next (class_at c.args.leaves.now) c.args.at c.brackets_at.result.end
    (no_bracket (class_at c.args.leaves.now c.args.at) (omega arith) (omega arith) (omega arith) (omega arith))
    (told_level (class_at c.args.leaves.now) c.args.at c.args.brackets.now c.requires.known (c.args.at + 1) c.brackets_at.result (omega arith) c.brackets_at.ensures)
