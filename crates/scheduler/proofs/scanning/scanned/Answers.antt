use Rattle.std.proofs.Common.{arith}
use Rattle.scheduler.specs.Runs.{scanned}
use Rattle.scheduler.proofs.Scans.{scanned_more}
use Rattle.scheduler.proofs.scanning.scanned.Goals as goal

pub loop-file-preserved : goal.loop-file-preserved
loop-file-preserved c =
    scanned_more c.args.leaf.now c.args.kept.now c.loop-file.file c.loop-file.value.texts c.scan.new.value.texts (scanned c.args.leaf.now c.args.kept.now)
    (omega (arith, c.in-Ok.ensures, c.file_count.ensures.count)) c.loop-file.invariant c.scan.ensures
