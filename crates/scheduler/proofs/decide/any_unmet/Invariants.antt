use Rattle.std.proofs.Common.{◌≡◌, false, not, take}
use Rattle.std.specs.Prelude.{slice_index_or}
use Rattle.std.specs.List.{list_any}
use Rattle.scheduler.proofs.decide.any_unmet.Given as goal

abbrev pub invariant-loop-condition : goal.invariant-loop-condition
invariant-loop-condition l = list_any (λ k. not (slice_index_or l.met k false)) (take l.condition-index l.conditions) ≡ false
