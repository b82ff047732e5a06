use Rattle.rw_base.proofs.TaskSteps.{IsRunning}
use Rattle.rw_base.proofs.node_edits.with_nodes_edited.Given as goal

abbrev pub invariant-loop : goal.invariant-loop
invariant-loop l = IsRunning l.tree l.bytes l.edits l.work.tasks.items l.work.text
