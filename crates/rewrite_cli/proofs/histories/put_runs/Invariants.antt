use Rattle.std.proofs.Common.{◌≡◌, ◌++◌, drop}
use Rattle.rewrite_cli.specs.Histories.{run_lines}
use Rattle.rewrite_cli.proofs.histories.put_runs.Given as goal

abbrev pub invariant-loop-run : goal.invariant-loop-run
invariant-loop-run l = l.text.items ++ run_lines (drop l.run-index l.runs) ≡ l.initial.text.items ++ run_lines l.runs
