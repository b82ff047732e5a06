use Rattle.std.proofs.Common.{◌+◌, subst, arith}
use Rattle.java_lex.specs.Segments.{class_at}
use Rattle.java_lex.specs.KnownBrackets.{OneBalanced, ToldBalanced}
use Rattle.java_lex.proofs.BracketSteps.{no_group, wrong_group, goes_next, goes_behind, told_level, told_leads, levels_end}
use Rattle.java_lex.proofs.brackets.leads_behind.Goals as goal
use Rattle.java_lex.proofs.BracketSteps.{open_no_stop}

pub returns-in-None : goal.returns-in-None
returns-in-None c =
    goes_next (class_at c.args.leaves.now) c.args.at c.brackets_at-in-None.result.leads (open_no_stop (class_at c.args.leaves.now c.args.at) c.args.close c.requires.open)
    (no_group (class_at c.args.leaves.now) c.args.at (subst (ToldBalanced (class_at c.args.leaves.now) (c.args.at + 1)) c.in-None.is (told_level (class_at c.args.leaves.now) c.args.at c.args.brackets.now c.requires.known (c.args.at + 1) c.brackets_at.result (omega arith) c.brackets_at.ensures)))
    (told_leads (class_at c.args.leaves.now) c.args.at c.args.brackets.now c.requires.known (c.args.at + 1) c.brackets_at-in-None.result (omega arith) c.brackets_at-in-None.ensures)

pub returns-then-class_at-close : goal.returns-then-class_at-close
returns-then-class_at-close c =
    goes_next (class_at c.args.leaves.now) c.args.at c.brackets_at-then-class_at-close.result.leads (open_no_stop (class_at c.args.leaves.now c.args.at) c.args.close c.requires.open)
    (wrong_group (class_at c.args.leaves.now) c.args.at c.args.close c.in-Some.end c.requires.open (subst (ToldBalanced (class_at c.args.leaves.now) (c.args.at + 1)) c.in-Some.is (told_level (class_at c.args.leaves.now) c.args.at c.args.brackets.now c.requires.known (c.args.at + 1) c.brackets_at.result (omega arith) c.brackets_at.ensures)) (omega arith))
    (told_leads (class_at c.args.leaves.now) c.args.at c.args.brackets.now c.requires.known (c.args.at + 1) c.brackets_at-then-class_at-close.result (omega arith) c.brackets_at-then-class_at-close.ensures)

pub returns-else-class_at-close : goal.returns-else-class_at-close
returns-else-class_at-close c =
    let one : OneBalanced (class_at c.args.leaves.now) (c.args.at + 1) c.in-Some.end = (subst (ToldBalanced (class_at c.args.leaves.now) (c.args.at + 1)) c.in-Some.is (told_level (class_at c.args.leaves.now) c.args.at c.args.brackets.now c.requires.known (c.args.at + 1) c.brackets_at.result (omega arith) c.brackets_at.ensures)) in
    goes_behind (class_at c.args.leaves.now) c.args.at c.args.close c.in-Some.end c.brackets_at-in-Some.result.leads c.requires.open one (omega arith)
    (told_leads (class_at c.args.leaves.now) c.args.at c.args.brackets.now c.requires.known (c.in-Some.end + 1) c.brackets_at-in-Some.result (levels_end (class_at c.args.leaves.now) c.args.at c.in-Some.end one) c.brackets_at-in-Some.ensures)
