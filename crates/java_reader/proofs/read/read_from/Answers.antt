use Rattle.std.proofs.Common.{◌∙◌, ◌+◌, length, ap}
use Rattle.std.specs.Prelude.{Ok, Err}
use Rattle.java_reader.specs.Reading.{one-each}
use Rattle.java_reader.proofs.ReadTrees.{reads, derived_tree, few_nodes, kinds_of_tree, one_count}
use Rattle.java_reader.proofs.read.read_from.Goals as goal

pub returns-in-Ok-clause-tree : goal.returns-in-Ok-clause-tree
returns-in-Ok-clause-tree g c =
    reads c.args.table.now c.requires.table c.args.start c.args.bytes.now c.in_ok-cut.cut.leaves.items c.in_ok-cut.cut.bad
    (Ok c.in-Ok.tree) c.in_default.ensures.small c.in_ok-cut.ensures.cut c.in-Ok.ensures.tree

pub returns-in-Ok-clause-few : goal.returns-in-Ok-clause-few
returns-in-Ok-clause-few g c =
    few_nodes c.args.table.now c.args.start c.in_ok-cut.cut.leaves.items c.in-Ok.tree c.root.ensures.tree
    (derived_tree c.args.table.now c.args.start c.args.bytes.now c.in_ok-cut.cut.leaves.items c.in_ok-cut.cut.bad
    c.in-Ok.tree c.in-Ok.ensures.tree)

pub returns-in-Ok-clause-kinds : goal.returns-in-Ok-clause-kinds
returns-in-Ok-clause-kinds g c =
    kinds_of_tree c.args.table.now c.requires.table c.java_rules_are_sound.ensures c.args.start c.requires.start
    c.in_ok-cut.cut.leaves.items c.in-Ok.tree
    (derived_tree c.args.table.now c.args.start c.args.bytes.now c.in_ok-cut.cut.leaves.items c.in_ok-cut.cut.bad
    c.in-Ok.tree c.in-Ok.ensures.tree)

pub returns-in-Ok-clause-steps : goal.returns-in-Ok-clause-steps
returns-in-Ok-clause-steps g c = λ _.
    one-each c.in_ok-cut.cut.leaves.items c.in_ok-cut.cut.bad c.in_default.ensures.small c.in_ok-cut.ensures.cut
    (c.tick_each.ensures ∙ ap (λ ls. c.args.steps.now + length ls) c.as_slice.ensures.value)

pub returns-in-Ok-clause-at_most : goal.returns-in-Ok-clause-at_most
returns-in-Ok-clause-at_most g c = λ most s.
    one_count c.args.bytes.now c.cuts_are_one.ensures c.in_ok-cut.cut.leaves.items c.in_ok-cut.cut.bad c.args.steps.now
    c.tick_each.new.steps most c.in_default.ensures.small c.in_ok-cut.ensures.cut
    (c.tick_each.ensures ∙ ap (λ ls. c.args.steps.now + length ls) c.as_slice.ensures.value) s

pub returns-in-Err-clause-refused : goal.returns-in-Err-clause-refused
returns-in-Err-clause-refused g c = λ r e.
    reads c.args.table.now c.requires.table c.args.start c.args.bytes.now c.in_ok-cut.cut.leaves.items c.in_ok-cut.cut.bad
    (Err r) c.in_default.ensures.small c.in_ok-cut.ensures.cut (c.read_by.ensures.refused r (c.in-Err.is ∙ e))

pub returns-in-Err-clause-steps : goal.returns-in-Err-clause-steps
returns-in-Err-clause-steps g c = λ _.
    one-each c.in_ok-cut.cut.leaves.items c.in_ok-cut.cut.bad c.in_default.ensures.small c.in_ok-cut.ensures.cut
    (c.tick_each.ensures ∙ ap (λ ls. c.args.steps.now + length ls) c.as_slice.ensures.value)

pub returns-in-Err-clause-at_most : goal.returns-in-Err-clause-at_most
returns-in-Err-clause-at_most g c = λ most s.
    one_count c.args.bytes.now c.cuts_are_one.ensures c.in_ok-cut.cut.leaves.items c.in_ok-cut.cut.bad c.args.steps.now
    c.tick_each.new.steps most c.in_default.ensures.small c.in_ok-cut.ensures.cut
    (c.tick_each.ensures ∙ ap (λ ls. c.args.steps.now + length ls) c.as_slice.ensures.value) s
