use Rattle.std.proofs.Common.{add-one}
use Rattle.jtypes.proofs.Levels.{level_more}
use Rattle.jtypes.proofs.walk.reach.Goals as goal

pub loop-level-preserved : goal.loop-level-preserved
loop-level-preserved g c =
    let w = g.C.Classes.world c.args.c.now in
    rw (add-one, c.len-past.ensures) (level_more w c.loop-level._level c.args.name.now c.loop-level.from c.loop-level.seen c.expand.new.seen c.loop-level.invariant (rw c.len-past.ensures at c.in_ok-expand.ensures))
