use Rattle.std.proofs.Common.{[], rules}
use Rattle.recipe_yaml.specs.Checked.{each}
use Rattle.recipe_yaml.specs.Nodes.{nodes_of}
use Rattle.recipe_yaml.specs.WrittenEntries.{with_text}
use Rattle.recipe_yaml.proofs.Binds.{each_more, each_fault, each_end}
use Rattle.recipe_yaml.proofs.lists.texts.Goals as goal

pub returns-in_err-push_text : goal.returns-in_err-push_text
returns-in_err-push_text c =
    let e = each_fault (with_text c.args.bytes.now c.args.tree.now) c.deref-m-items.result.now c.loop-m.m-index
    c.loop-m.texts
    (each (with_text c.args.bytes.now c.args.tree.now) [] (nodes_of c.args.tree.now c.args.n)) c.loop-m.invariant _
    c.in_err-push_text.field-0.0 c.loop-m-test.true c.in_err-push_text.ensures in
    search (rules, e)

pub loop-m-preserved : goal.loop-m-preserved
loop-m-preserved c =
    each_more (with_text c.args.bytes.now c.args.tree.now) c.deref-m-items.result.now c.loop-m.m-index
    c.loop-m.texts
    (each (with_text c.args.bytes.now c.args.tree.now) [] (nodes_of c.args.tree.now c.args.n)) c.loop-m.invariant _
    c.push_text.new.texts c.loop-m-test.true c.in_ok-push_text.ensures

pub returns : goal.returns
returns c =
    each_end (with_text c.args.bytes.now c.args.tree.now) c.deref-m-items.result.now c.loop-m.m-index
    c.loop-m.texts
    (each (with_text c.args.bytes.now c.args.tree.now) [] (nodes_of c.args.tree.now c.args.n)) c.loop-m.invariant c.loop-m-test.false
