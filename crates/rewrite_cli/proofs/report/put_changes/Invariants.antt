use Rattle.std.proofs.Common.{◌≡◌, ◌++◌, drop}
use Rattle.rewrite_cli.specs.Report.{change_lines}
use Rattle.rewrite_cli.proofs.report.put_changes.Given as goal

abbrev pub invariant-loop-change : goal.invariant-loop-change
invariant-loop-change l = l.text.items ++ change_lines (drop l.change-index l.changes) ≡ l.initial.text.items ++ change_lines l.changes
