use Rattle.std.proofs.Common.{◌+◌, sym, subst, arith}
use Rattle.java_lex.specs.declared.brackets.Brackets.{Brackets}
use Rattle.java_lex.specs.Segments.{class_at, is_tight}
use Rattle.java_lex.specs.KnownBrackets.{KnowsSet}
use Rattle.java_lex.proofs.BracketSteps.{set_here, set_behind}
use Rattle.java_lex.proofs.brackets.set_from.Goals as goal

pub returns-in-75 : goal.returns-in-75
returns-in-75 c = set_here (class_at c.args.leaves.now) (is_tight c.args.leaves.now) c.args.at (omega (arith, c.in-75.is))

pub returns-else-not-adjoins : goal.returns-else-not-adjoins
returns-else-not-adjoins c =
    set_behind (class_at c.args.leaves.now) (is_tight c.args.leaves.now) c.args.at c.brackets_at.result.set (omega (arith, c.in-66.is)) (c.adjoins.ensures.adjoins.0 c.if-not-adjoins.false)
    (subst (λ (l : Brackets). KnowsSet (class_at c.args.leaves.now) (is_tight c.args.leaves.now) (c.args.at + 1) l) (sym c.brackets_at.ensures) (c.requires.sets (c.args.at + 1) (omega arith)))
