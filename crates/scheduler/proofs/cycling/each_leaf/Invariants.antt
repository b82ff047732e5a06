use Rattle.std.proofs.Common.{◌≡◌, drop}
use Rattle.kept_files.specs.Readings.{Reads, AreReadings}
use Rattle.kept_files.specs.States.{State}
use Rattle.scheduler.specs.Runs.{each_leaf, values_for}
use Rattle.scheduler.specs.Came.{phase_of}
use Rattle.scheduler.proofs.Onward.{Onward}
use Rattle.scheduler.proofs.cycling.each_leaf.Given as goal

abbrev pub invariant-loop-i : goal.invariant-loop-i
invariant-loop-i g l =
    (read : Reads) → AreReadings read → (first : State) → l.values ≡ values_for first l.plan.leaves
    → Onward l.fn.kept l.fn.events (each_leaf (phase_of read l.plan l.phase) first l.plan.leaves l.fn.kept) l.kept l.events (each_leaf (phase_of read l.plan l.phase) first (drop l.i l.plan.leaves) l.kept)
