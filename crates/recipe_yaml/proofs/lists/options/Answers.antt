use Rattle.std.proofs.Common.{[], rules}
use Rattle.recipe_yaml.specs.Checked.{each}
use Rattle.recipe_yaml.specs.Nodes.{nodes_of}
use Rattle.recipe_yaml.specs.WrittenEntries.{with_option}
use Rattle.recipe_yaml.proofs.Binds.{each_more, each_fault, each_end}
use Rattle.recipe_yaml.proofs.lists.options.Goals as goal

pub returns-in_err-push_option : goal.returns-in_err-push_option
returns-in_err-push_option c =
    let e = each_fault (with_option c.args.bytes.now c.args.tree.now) c.deref-m-items.result.now c.loop-m.m-index
    c.loop-m.options
    (each (with_option c.args.bytes.now c.args.tree.now) [] (nodes_of c.args.tree.now c.args.n)) c.loop-m.invariant _
    c.in_err-push_option.field-0.0 c.loop-m-test.true c.in_err-push_option.ensures in
    search (rules, e)

pub loop-m-preserved : goal.loop-m-preserved
loop-m-preserved c =
    each_more (with_option c.args.bytes.now c.args.tree.now) c.deref-m-items.result.now c.loop-m.m-index
    c.loop-m.options
    (each (with_option c.args.bytes.now c.args.tree.now) [] (nodes_of c.args.tree.now c.args.n)) c.loop-m.invariant _
    c.push_option.new.options c.loop-m-test.true c.in_ok-push_option.ensures

pub returns : goal.returns
returns c =
    each_end (with_option c.args.bytes.now c.args.tree.now) c.deref-m-items.result.now c.loop-m.m-index
    c.loop-m.options
    (each (with_option c.args.bytes.now c.args.tree.now) [] (nodes_of c.args.tree.now c.args.n)) c.loop-m.invariant c.loop-m-test.false
