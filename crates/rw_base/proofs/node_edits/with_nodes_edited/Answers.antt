use Rattle.std.proofs.Common.{◌∙◌, arith}
use Rattle.rw_base.proofs.TaskSteps.{if_ok, begun, last_fits, goes_on, ended}
use Rattle.rw_base.proofs.node_edits.with_nodes_edited.Goals as goal

pub loop-init : goal.loop-init
loop-init c =
    begun c.args.tree.now c.args.bytes.now c.args.edits.now c.new.result.items c.put_node.new.work.tasks.items c.in_ok-with_room.field-0 c.put_node.new.work.text c.root.result.0
    c.new.ensures.items c.in_ok-with_room.ensures c.root.ensures.value c.in_ok-put_node.ensures

pub returns-in_default : goal.returns-in_default
returns-in_default c =
    if_ok c.into_vec.result _ _ (λ text e. e ∙ ended c.args.tree.now c.args.bytes.now c.args.edits.now c.loop.work.tasks.items c.loop.work.text c.loop.invariant (omega (arith, c.in_default.ensures.cases.0))) c.into_vec.ensures

pub do_task-requires-clause-task : goal.do_task-requires-clause-task
do_task-requires-clause-task c =
    last_fits c.args.tree.now c.args.bytes.now c.args.edits.now c.loop.work.tasks.items c.pop.new.self.items c.in-Some.task c.loop.work.text c.loop.invariant c.in-Some.ensures.items

pub loop-preserved : goal.loop-preserved
loop-preserved c =
    goes_on c.args.tree.now c.args.bytes.now c.args.edits.now c.loop.work.tasks.items c.pop.new.self.items c.in-Some.task c.loop.work.text c.loop.invariant c.in-Some.ensures.items
    c.do_task.new.work.tasks.items c.do_task.new.work.text c.in_ok-do_task.ensures
