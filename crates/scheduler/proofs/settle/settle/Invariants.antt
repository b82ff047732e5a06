use Rattle.std.proofs.Common.{◌≡◌, ◌++◌, [], drop, length}
use Rattle.scheduler.specs.Fates.{settled}
use Rattle.scheduler.proofs.settle.settle.Given as goal

abbrev pub invariant-loop-i : goal.invariant-loop-i
invariant-loop-i l = record {
  settled : l.all.items ++ settled l.files l.taken.items (drop l.i l.files) (drop l.i l.fates) ≡ settled l.files [] l.files l.fates;
  count : length l.all.items ≡ l.i;
}
