use Rattle.jtypes.proofs.LeftOver.{no_box}
use Rattle.jtypes.proofs.primitives.unbox.Goals as goal

pub returns-in_default : goal.returns-in_default
returns-in_default c = no_box c.args.t.now c.in_default.not-Prim c.in_default.not-Class
