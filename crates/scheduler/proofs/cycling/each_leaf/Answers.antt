use Rattle.std.proofs.Common.{◌≡◌, length, ap, arith}
use Rattle.scheduler.specs.Runs.{each_leaf}
use Rattle.scheduler.specs.Came.{phase_of}
use Rattle.scheduler.proofs.Onward.{leaf_end}
use Rattle.scheduler.proofs.cycling.each_leaf.Goals as goal

pub returns : goal.returns
returns g c read are first is =
    let phase = phase_of read c.args.plan.now c.args.phase in
    let leaves = c.args.plan.now.leaves in
    let long : length c.as_slice-leaf-items.result.now ≡ length leaves = ap length c.as_slice-leaf-items.ensures in
    leaf_end phase first leaves c.loop-i.i c.args.values.now c.args.kept.now c.loop-i.kept c.args.events.now c.loop-i.events (each_leaf phase first leaves c.args.kept.now) tt
    (omega (arith, long)) (c.loop-i.invariant read are first is)
