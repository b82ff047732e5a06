use Rattle.std.proofs.Common.{length, ap, sym, ◌∙◌}
use Rattle.rw_base.proofs.TaskSteps.{edited_node, touched_node, kept_node}
use Rattle.rw_base.proofs.node_edits.put_node.Goals as goal

pub returns-in_ok-push : goal.returns-in_ok-push
returns-in_ok-push c =
    edited_node c.args.editing.now.tree.now c.args.editing.now.bytes.now c.args.editing.now.edits.now c.requires.editing.fit c.args.editing.now.chosen.leaves.items c.args.editing.now.chosen.nodes.items c.args.editing.now.chosen.touched.items c.requires.editing.chosen
    c.args.work.now.tasks.items c.push.new.self.items c.args.work.now.text c.args.n.0 c.in-Some.k c.len.result c.index.result.now c.index-editing-k.result c.requires.node (sym c.index.ensures ∙ c.in-Some.is) c.len.ensures c.in_ok-push.ensures.items

pub returns-in_ok-push-2 : goal.returns-in_ok-push-2
returns-in_ok-push-2 c =
    touched_node c.args.editing.now.tree.now c.args.editing.now.bytes.now c.args.editing.now.edits.now c.requires.editing.fit c.args.editing.now.chosen.leaves.items c.args.editing.now.chosen.nodes.items c.args.editing.now.chosen.touched.items c.requires.editing.chosen
    c.args.work.now.tasks.items c.push-then-index.new.self.items c.args.work.now.text c.args.n (length c.parts.result.now) c.index.result.now c.requires.node (sym c.index.ensures ∙ c.in_default.is) (ap length c.parts.ensures.parts) c.in_ok-push-2.ensures.items

pub returns-in_ok-prepend : goal.returns-in_ok-prepend
returns-in_ok-prepend c =
    kept_node c.args.editing.now.tree.now c.args.editing.now.bytes.now c.args.editing.now.edits.now c.requires.editing.fit c.args.editing.now.chosen.leaves.items c.args.editing.now.chosen.nodes.items c.args.editing.now.chosen.touched.items c.requires.editing.chosen
    c.args.work.now.tasks.items c.args.work.now.text c.prepend.new.self c.node_bytes.result.now c.in_ok-prepend.ensures c.args.n.0 c.index-in_default.result.now c.requires.node (sym c.index-in_default.ensures ∙ c.if-index.false) c.node_bytes.ensures
