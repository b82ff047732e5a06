use Rattle.std.proofs.Common.{take}
use Rattle.jtypes.specs.Grown.{Grown}
use Rattle.jtypes.proofs.walk.add_new.Given as goal

abbrev pub invariant-loop-name : goal.invariant-loop-name
invariant-loop-name l = Grown (take l.name-index l.names) l.initial.seen l.seen
