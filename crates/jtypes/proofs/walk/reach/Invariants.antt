use Rattle.jtypes.proofs.Levels.{Level}
use Rattle.jtypes.proofs.walk.reach.Given as goal

abbrev pub invariant-loop-level : goal.invariant-loop-level
invariant-loop-level g l = Level (g.C.Classes.world l.c) l._level l.name l.from l.seen
