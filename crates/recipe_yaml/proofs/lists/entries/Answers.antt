use Rattle.std.proofs.Common.{[], rules}
use Rattle.recipe_yaml.specs.Checked.{each}
use Rattle.recipe_yaml.specs.Nodes.{nodes_of}
use Rattle.recipe_yaml.specs.WrittenEntries.{with_entry}
use Rattle.recipe_yaml.proofs.Binds.{each_more, each_fault, each_end}
use Rattle.recipe_yaml.proofs.lists.entries.Goals as goal

pub returns-in_err-push_entry : goal.returns-in_err-push_entry
returns-in_err-push_entry c =
    let e = each_fault (with_entry c.args.bytes.now c.args.tree.now) c.deref-m-items.result.now c.loop-m.m-index
    c.loop-m.entries
    (each (with_entry c.args.bytes.now c.args.tree.now) [] (nodes_of c.args.tree.now c.args.n)) c.loop-m.invariant _
    c.in_err-push_entry.field-0.0 c.loop-m-test.true c.in_err-push_entry.ensures in
    search (rules, e)

pub loop-m-preserved : goal.loop-m-preserved
loop-m-preserved c =
    each_more (with_entry c.args.bytes.now c.args.tree.now) c.deref-m-items.result.now c.loop-m.m-index
    c.loop-m.entries
    (each (with_entry c.args.bytes.now c.args.tree.now) [] (nodes_of c.args.tree.now c.args.n)) c.loop-m.invariant _
    c.push_entry.new.entries c.loop-m-test.true c.in_ok-push_entry.ensures

pub returns : goal.returns
returns c =
    each_end (with_entry c.args.bytes.now c.args.tree.now) c.deref-m-items.result.now c.loop-m.m-index
    c.loop-m.entries
    (each (with_entry c.args.bytes.now c.args.tree.now) [] (nodes_of c.args.tree.now c.args.n)) c.loop-m.invariant c.loop-m-test.false
