use Rattle.std.proofs.Common.{subst}
use Rattle.rw_base.specs.Tasks.{IsInTree}
use Rattle.rw_base.proofs.TaskSteps.{on_ok, body_put}
use Rattle.rw_base.proofs.node_edits.put_item.Goals as goal

pub returns-in_ok-push-in-NodeBody : goal.returns-in_ok-push-in-NodeBody
returns-in_ok-push-in-NodeBody c =
    on_ok c.put_node-in-NodeBody.result _ _
    (body_put c.args.editing.now.tree.now c.args.editing.now.bytes.now c.args.editing.now.edits.now c.args.work.now.tasks.items c.push.new.self.items c.put_node-in-NodeBody.new.work.tasks.items c.args.work.now.text c.put_node-in-NodeBody.new.work.text
    c.args.item.now c.in-NodeBody.m c.len.result c.in-NodeBody.is (subst (IsInTree c.args.editing.now.tree.now c.args.editing.now.edits.now) c.in-NodeBody.is c.requires.item) c.len.ensures c.in_ok-push-in-NodeBody.ensures.items)
    c.put_node-in-NodeBody.ensures
