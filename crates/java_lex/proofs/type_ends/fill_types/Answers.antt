use Rattle.std.proofs.Common.{arith}
use Rattle.java_lex.proofs.TypeSteps.{none_told}
use Rattle.java_lex.proofs.type_ends.fill_types.Goals as goal

pub loop-i-init : goal.loop-i-init
loop-i-init c = record {
  inside = omega arith;
  known = λ k h. none_told c.args.leaves.now c.args.types.now k h (omega (arith, c.requires.long));
}
