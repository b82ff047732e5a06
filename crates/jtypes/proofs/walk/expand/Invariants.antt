use Rattle.jtypes.specs.Grown.{Expanded}
use Rattle.jtypes.proofs.walk.expand.Given as goal

abbrev pub invariant-loop-i : goal.invariant-loop-i
invariant-loop-i g l = Expanded (g.C.Classes.world l.c) l.from l.i l.initial.seen l.seen
