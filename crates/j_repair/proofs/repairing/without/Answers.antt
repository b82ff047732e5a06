use Rattle.std.proofs.Common.{arith}
use Rattle.j_repair.specs.Changes.{without}
use Rattle.j_repair.proofs.Kept.{without_end}
use Rattle.j_repair.proofs.repairing.without.Goals as goal

pub returns : goal.returns
returns c = without_end c.args.path.now c.args.files.now c.loop-file.file-index c.loop-file.out.items (without c.args.path.now c.args.files.now) (omega arith) c.loop-file.invariant
