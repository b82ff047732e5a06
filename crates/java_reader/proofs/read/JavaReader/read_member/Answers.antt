use Rattle.std.proofs.Common.{arith}
use Rattle.java_reader.proofs.ReadTrees.{rule_count}
use Rattle.java_reader.proofs.read.JavaReader.read_member.Goals as goal

pub read_from-requires-clause-start : goal.read_from-requires-clause-start
read_from-requires-clause-start g c = omega (arith, rule_count)
