use Rattle.std.proofs.Common.{◌-◌}
use Rattle.kept_files.specs.Readings.{Reads, AreReadings}
use Rattle.scheduler.specs.Runs.{run}
use Rattle.scheduler.proofs.RunsOn.{RunsOn}
use Rattle.scheduler.proofs.running.run_cycles.Given as goal

abbrev pub invariant-loop-done : goal.invariant-loop-done
invariant-loop-done g l =
    (read : Reads) → AreReadings read
    → RunsOn l.fn.kept l.fn.events (run read l.plan l.cycles l.fn.kept) l.done l.kept l.events (run read l.plan (l.cycles - l.done) l.kept)
