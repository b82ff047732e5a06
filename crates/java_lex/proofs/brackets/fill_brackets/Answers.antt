use Rattle.std.proofs.Common.{arith}
use Rattle.java_lex.proofs.brackets.fill_brackets.Goals as goal
use Rattle.java_lex.proofs.BracketSteps.{none_told_level, none_told_set}

pub loop-i-init : goal.loop-i-init
loop-i-init c = record {
  inside = omega arith;
  known = λ k h. none_told_level c.args.leaves.now c.args.brackets.now k h (omega (arith, c.requires.long));
  sets = λ k h. none_told_set c.args.leaves.now c.args.brackets.now k h (omega (arith, c.requires.long));
}
