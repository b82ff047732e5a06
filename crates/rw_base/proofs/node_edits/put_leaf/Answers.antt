use Rattle.std.proofs.Common.{sym, ◌∙◌}
use Rattle.rw_base.proofs.TaskSteps.{edited_leaf, kept_leaf}
use Rattle.rw_base.proofs.node_edits.put_leaf.Goals as goal

pub returns-in_ok-push-2 : goal.returns-in_ok-push-2
returns-in_ok-push-2 c =
    edited_leaf c.args.editing.now.tree.now c.args.editing.now.bytes.now c.args.editing.now.edits.now c.requires.editing.fit c.args.editing.now.chosen.leaves.items c.args.editing.now.chosen.nodes.items c.args.editing.now.chosen.touched.items c.requires.editing.chosen
    c.args.work.now.tasks.items c.push.new.self.items c.push-in-Some.new.self.items c.args.work.now.text c.args.i c.in-Some.k c.len.result c.index.result.now c.index-editing-k.result c.requires.leaf (sym c.index.ensures ∙ c.in-Some.is) c.len.ensures c.in_ok-push.ensures.items c.in_ok-push-2.ensures.items

pub returns-in_ok-prepend : goal.returns-in_ok-prepend
returns-in_ok-prepend c =
    kept_leaf c.args.editing.now.tree.now c.args.editing.now.bytes.now c.args.editing.now.edits.now c.requires.editing.fit c.args.editing.now.chosen.leaves.items c.args.editing.now.chosen.nodes.items c.args.editing.now.chosen.touched.items c.requires.editing.chosen
    c.args.work.now.tasks.items c.args.work.now.text c.prepend.new.self c.leaf_bytes.result.now c.in_ok-prepend.ensures c.args.i c.index.result.now c.requires.leaf (sym c.index.ensures ∙ c.in_default.is) c.leaf_bytes.ensures
