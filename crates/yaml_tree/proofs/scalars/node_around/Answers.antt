use Rattle.std.proofs.Common.{length, ap, arith}
use Rattle.rw_base.specs.Arena.{parts_of, first_of, past_of}
use Rattle.yaml_tree.proofs.Around.{some_parts, from_first, all_behind, end_below, end_has, end_node, end_leaf}
use Rattle.yaml_tree.proofs.scalars.node_around.Goals as goal

pub loop-from-init : goal.loop-from-init
loop-from-init c =
    let t = c.args.tree.now in
    let n = c.args.n.0 in
    let tree = c.root.ensures.tree in
    let ps = c.parts-parts.result.now in
    let same = c.parts-parts.ensures.parts in
    let has = c.requires.inside in
    let some = some_parts t.nodes (parts_of t.nodes n) (first_of t.nodes n) (past_of t.nodes n)
    (tree.spans n c.requires.node) (omega (arith, has.0, has.1)) in
    record {
      order = omega (arith, some, ap length same);
      inside = omega arith;
      before = from_first t tree n c.requires.node ps same c.args.i has.0;
      behind = all_behind t tree n c.requires.node ps same c.args.i has.1;
    }

pub returns-in-Leaf-clause-none : goal.returns-in-Leaf-clause-none
returns-in-Leaf-clause-none c =
    let inv = c.loop-from.invariant in
    end_leaf c.args.tree.now c.root.ensures.tree c.args.i c.args.n.0 c.requires.node c.requires.inside
    c.parts-parts.result.now c.parts-parts.ensures.parts c.loop-from.from c.loop-from.to inv.order inv.inside inv.before
    inv.behind c.loop-from-test.false _ _ c.in-Leaf.is

pub returns-in-Node-clause-below : goal.returns-in-Node-clause-below
returns-in-Node-clause-below c =
    let inv = c.loop-from.invariant in
    end_below c.args.tree.now c.root.ensures.tree c.args.i c.args.n.0 c.requires.node c.requires.inside
    c.parts-parts.result.now c.parts-parts.ensures.parts c.loop-from.from c.loop-from.to inv.order inv.inside inv.before
    inv.behind c.loop-from-test.false _ c.in-Node.m c.in-Node.is

pub returns-in-Node-clause-inside : goal.returns-in-Node-clause-inside
returns-in-Node-clause-inside c =
    let inv = c.loop-from.invariant in
    end_has c.args.tree.now c.root.ensures.tree c.args.i c.args.n.0 c.requires.node c.requires.inside
    c.parts-parts.result.now c.parts-parts.ensures.parts c.loop-from.from c.loop-from.to inv.order inv.inside inv.before
    inv.behind c.loop-from-test.false _ c.in-Node.m c.in-Node.is

pub returns-in-Node-clause-some : goal.returns-in-Node-clause-some
returns-in-Node-clause-some c =
    let inv = c.loop-from.invariant in
    end_node c.args.tree.now c.root.ensures.tree c.args.i c.args.n.0 c.requires.node c.requires.inside
    c.parts-parts.result.now c.parts-parts.ensures.parts c.loop-from.from c.loop-from.to inv.order inv.inside inv.before
    inv.behind c.loop-from-test.false _ c.in-Node.m c.in-Node.is
