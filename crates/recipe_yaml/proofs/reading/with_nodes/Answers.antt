use Rattle.std.proofs.Common.{rules}
use Rattle.recipe_yaml.specs.Checked.{each}
use Rattle.recipe_yaml.specs.Books.{no_root, with_node}
use Rattle.recipe_yaml.proofs.Binds.{each_more, each_fault, each_end}
use Rattle.recipe_yaml.proofs.reading.with_nodes.Goals as goal

pub returns-in_err-with_node : goal.returns-in_err-with_node
returns-in_err-with_node c =
    let e = each_fault (with_node c.args.bytes.now c.args.tree.now c.args.before.now) c.args.nodes.now c.loop-n.n-index
    c.loop-n.root (each (with_node c.args.bytes.now c.args.tree.now c.args.before.now) no_root c.args.nodes.now) c.loop-n.invariant _
    c.in_err-with_node.field-0.0 c.loop-n-test.true c.in_err-with_node.ensures in
    search (rules, e)

pub loop-n-preserved : goal.loop-n-preserved
loop-n-preserved c =
    each_more (with_node c.args.bytes.now c.args.tree.now c.args.before.now) c.args.nodes.now c.loop-n.n-index
    c.loop-n.root (each (with_node c.args.bytes.now c.args.tree.now c.args.before.now) no_root c.args.nodes.now) c.loop-n.invariant _
    c.with_node.new.root c.loop-n-test.true c.in_ok-with_node.ensures

pub returns : goal.returns
returns c =
    each_end (with_node c.args.bytes.now c.args.tree.now c.args.before.now) c.args.nodes.now c.loop-n.n-index
    c.loop-n.root (each (with_node c.args.bytes.now c.args.tree.now c.args.before.now) no_root c.args.nodes.now) c.loop-n.invariant c.loop-n-test.false
