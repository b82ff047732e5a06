use Rattle.std.proofs.Common.{[], rules}
use Rattle.recipe_yaml.specs.Checked.{each}
use Rattle.recipe_yaml.specs.Nodes.{nodes_of}
use Rattle.recipe_yaml.specs.Books.{with_document}
use Rattle.recipe_yaml.proofs.Binds.{each_more, each_fault, each_end}
use Rattle.recipe_yaml.proofs.reading.documents.Goals as goal

pub returns-in_err-with_document : goal.returns-in_err-with_document
returns-in_err-with_document c =
    let e = each_fault (with_document c.args.bytes.now c.args.tree.now) c.deref-m-items.result.now c.loop-m.m-index
    c.loop-m.recipes
    (each (with_document c.args.bytes.now c.args.tree.now) [] (nodes_of c.args.tree.now c.args.n)) c.loop-m.invariant _
    c.in_err-with_document.field-0.0 c.loop-m-test.true c.in_err-with_document.ensures in
    search (rules, e)

pub loop-m-preserved : goal.loop-m-preserved
loop-m-preserved c =
    each_more (with_document c.args.bytes.now c.args.tree.now) c.deref-m-items.result.now c.loop-m.m-index
    c.loop-m.recipes
    (each (with_document c.args.bytes.now c.args.tree.now) [] (nodes_of c.args.tree.now c.args.n)) c.loop-m.invariant _
    c.with_document.new.recipes c.loop-m-test.true c.in_ok-with_document.ensures

pub returns : goal.returns
returns c =
    each_end (with_document c.args.bytes.now c.args.tree.now) c.deref-m-items.result.now c.loop-m.m-index
    c.loop-m.recipes
    (each (with_document c.args.bytes.now c.args.tree.now) [] (nodes_of c.args.tree.now c.args.n)) c.loop-m.invariant c.loop-m-test.false
