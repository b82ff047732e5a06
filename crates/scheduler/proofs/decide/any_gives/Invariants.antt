use Rattle.std.proofs.Common.{◌≡◌, false, take}
use Rattle.std.specs.List.{list_any}
use Rattle.scheduler.specs.Holds.{gives}
use Rattle.scheduler.proofs.decide.any_gives.Given as goal

abbrev pub invariant-loop-leaf : goal.invariant-loop-leaf
invariant-loop-leaf l = list_any (gives l.kept l.file l.met) (take l.leaf-index l.leaves) ≡ false
