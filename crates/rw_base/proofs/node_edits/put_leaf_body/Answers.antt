use Rattle.std.proofs.Common.{sym, ◌∙◌}
use Rattle.rw_base.proofs.TaskSteps.{edited_body, kept_body}
use Rattle.rw_base.proofs.node_edits.put_leaf_body.Goals as goal

pub returns-in_ok-push : goal.returns-in_ok-push
returns-in_ok-push c =
    edited_body c.args.editing.now.tree.now c.args.editing.now.bytes.now c.args.editing.now.edits.now c.requires.editing.fit c.args.editing.now.chosen.leaves.items c.args.editing.now.chosen.nodes.items c.args.editing.now.chosen.touched.items c.requires.editing.chosen
    c.args.work.now.tasks.items c.push.new.self.items c.args.work.now.text c.args.i c.in-Some.k c.len.result c.index.result.now c.index-editing-k.result c.requires.leaf (sym c.index.ensures ∙ c.in-Some.is) c.len.ensures c.in_ok-push.ensures.items

pub returns-in_ok-prepend : goal.returns-in_ok-prepend
returns-in_ok-prepend c =
    kept_body c.args.editing.now.tree.now c.args.editing.now.bytes.now c.args.editing.now.edits.now c.requires.editing.fit c.args.editing.now.chosen.leaves.items c.args.editing.now.chosen.nodes.items c.args.editing.now.chosen.touched.items c.requires.editing.chosen
    c.args.work.now.tasks.items c.args.work.now.text c.prepend.new.self c.text.result.now c.in_ok-prepend.ensures c.args.i c.index.result.now c.requires.leaf (sym c.index.ensures ∙ c.in_default.is) c.text.ensures
