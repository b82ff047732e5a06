use Rattle.std.proofs.Common.{arith}
use Rattle.rewrite_cli.proofs.Merging.{created_end}
use Rattle.rewrite_cli.proofs.changes.push_created.Goals as goal

pub returns : goal.returns
returns c = created_end c.args.files.now c.loop-at.at c.loop-at.out.items _ (omega (arith, c.loop-at-test.false)) c.loop-at.invariant
