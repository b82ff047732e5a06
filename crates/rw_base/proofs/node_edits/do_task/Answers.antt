use Rattle.std.proofs.Common.{◌-◌, length, ap, subst, arith}
use Rattle.rw_base.specs.declared.node_edits.Task.TheVariants as task
use Rattle.rw_base.specs.Tasks.{IsTask}
use Rattle.rw_base.proofs.TaskSteps.{part_of, item_of, part_put, item_put, over, no_parts, no_items, the_prefix, the_cut}
use Rattle.rw_base.proofs.node_edits.do_task.Goals as goal

pub put_part-requires-clause-part : goal.put_part-requires-clause-part
put_part-requires-clause-part c =
    let t = c.args.editing.now.tree.now in
    let fit = subst (IsTask t c.args.editing.now.edits.now) c.in-Parts.is c.requires.task in
    let long = ap length c.parts.ensures.parts in
    part_of t c.in-Parts.n.0 c.parts.result.now (c.in-Parts.count - 1) _ (omega (arith, fit.0)) c.parts.ensures.below (omega (arith, fit.1, long, c.if-count-gt0.true))

pub put_item-requires-clause-item : goal.put_item-requires-clause-item
put_item-requires-clause-item c =
    let t = c.args.editing.now.tree.now in
    let edits = c.args.editing.now.edits.now in
    let fit = subst (IsTask t edits) c.in-Items.is c.requires.task in
    item_of t edits c.in-Items.k (c.in-Items.count - 1) c.as_slice.result.now c.index-as_slice-count.result c.index-editing-k.result c.requires.editing.fit fit.0 c.as_slice.ensures (omega (arith, fit.1, c.if-count-gt0-2.true)) c.index-as_slice-count.is

pub returns-in_ok-put_part-in-Parts : goal.returns-in_ok-put_part-in-Parts
returns-in_ok-put_part-in-Parts c =
    part_put c.args.editing.now.tree.now c.args.editing.now.bytes.now c.args.editing.now.edits.now c.args.work.now.tasks.items c.push.new.self.items c.put_part.new.work.tasks.items c.args.work.now.text c.put_part.new.work.text c.args.task c.in-Parts.count c.if-count-gt0.true
    c.in-Parts.n c.parts.result.now _ c.in-Parts.is c.requires.task c.parts.ensures.parts c.in_ok-push-in-Parts.ensures.items c.in_ok-put_part-in-Parts.ensures

pub returns-else-count-gt0 : goal.returns-else-count-gt0
returns-else-count-gt0 c =
    over c.args.editing.now.tree.now c.args.editing.now.bytes.now c.args.editing.now.edits.now c.args.work.now.tasks.items c.args.work.now.text c.args.work.now.text c.args.task (task.Parts c.in-Parts.n c.in-Parts.count) c.in-Parts.is
    (no_parts c.args.editing.now.tree.now c.args.editing.now.bytes.now c.args.editing.now.edits.now c.in-Parts.n c.in-Parts.count c.args.work.now.text c.if-count-gt0.false)

pub returns-in_ok-put_item-in-Items : goal.returns-in_ok-put_item-in-Items
returns-in_ok-put_item-in-Items c =
    item_put c.args.editing.now.tree.now c.args.editing.now.bytes.now c.args.editing.now.edits.now c.args.work.now.tasks.items c.push-then-count-gt0-2.new.self.items c.put_item.new.work.tasks.items c.args.work.now.text c.put_item.new.work.text c.args.task c.in-Items.count c.if-count-gt0-2.true
    c.in-Items.k c.as_slice.result.now c.index-as_slice-count.result c.index-editing-k.result c.in-Items.is c.requires.task c.as_slice.ensures c.index-as_slice-count.is c.in_ok-push-in-Items.ensures.items c.in_ok-put_item-in-Items.ensures

pub returns-else-count-gt0-2 : goal.returns-else-count-gt0-2
returns-else-count-gt0-2 c =
    over c.args.editing.now.tree.now c.args.editing.now.bytes.now c.args.editing.now.edits.now c.args.work.now.tasks.items c.args.work.now.text c.args.work.now.text c.args.task (task.Items c.in-Items.k c.in-Items.count) c.in-Items.is
    (no_items c.args.editing.now.tree.now c.args.editing.now.bytes.now c.args.editing.now.edits.now c.in-Items.k c.in-Items.count c.args.work.now.text c.if-count-gt0-2.false)

pub returns-in_ok-prepend-in-Prefix : goal.returns-in_ok-prepend-in-Prefix
returns-in_ok-prepend-in-Prefix c =
    over c.args.editing.now.tree.now c.args.editing.now.bytes.now c.args.editing.now.edits.now c.args.work.now.tasks.items c.args.work.now.text c.prepend.new.self c.args.task (task.Prefix c.in-Prefix.i) c.in-Prefix.is
    (the_prefix c.args.editing.now.tree.now c.args.editing.now.bytes.now c.args.editing.now.edits.now c.in-Prefix.i c.args.work.now.text c.prefix.result.now c.prepend.new.self c.prefix.ensures c.in_ok-prepend-in-Prefix.ensures)

pub returns-in-Cut : goal.returns-in-Cut
returns-in-Cut c =
    over c.args.editing.now.tree.now c.args.editing.now.bytes.now c.args.editing.now.edits.now c.args.work.now.tasks.items c.args.work.now.text c.take_off.new.text c.args.task (task.Cut c.in-Cut.n c.in-Cut.behind) c.in-Cut.is
    (the_cut c.args.editing.now.tree.now c.args.editing.now.bytes.now c.args.editing.now.edits.now c.in-Cut.n c.in-Cut.behind c.args.work.now.text c.front.result.now c.take_off.new.text c.front.ensures c.take_off.ensures)
