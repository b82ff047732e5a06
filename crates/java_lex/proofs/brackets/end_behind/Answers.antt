use Rattle.std.proofs.Common.{◌+◌, subst, arith}
use Rattle.java_lex.specs.Segments.{class_at}
use Rattle.java_lex.specs.KnownBrackets.{OneBalanced, ToldBalanced}
use Rattle.java_lex.proofs.BracketSteps.{level_behind, told_level, levels_end}
use Rattle.java_lex.proofs.brackets.end_behind.Goals as goal

pub returns-else-class_at-close : goal.returns-else-class_at-close
returns-else-class_at-close c =
    let one : OneBalanced (class_at c.args.leaves.now) (c.args.at + 1) c.in-Some.end = (subst (ToldBalanced (class_at c.args.leaves.now) (c.args.at + 1)) c.in-Some.is (told_level (class_at c.args.leaves.now) c.args.at c.args.brackets.now c.requires.known (c.args.at + 1) c.brackets_at.result (omega arith) c.brackets_at.ensures)) in
    level_behind (class_at c.args.leaves.now) c.args.at c.args.close c.in-Some.end c.brackets_at-in-Some.result.end c.requires.open one (omega arith)
    (told_level (class_at c.args.leaves.now) c.args.at c.args.brackets.now c.requires.known (c.in-Some.end + 1) c.brackets_at-in-Some.result (levels_end (class_at c.args.leaves.now) c.args.at c.in-Some.end one) c.brackets_at-in-Some.ensures)
