use Rattle.std.proofs.Common.{◌<◌, length, drop, sym, ap, subst, arith}
use Rattle.rw_base.specs.Arena.{Runs, parts_of, past_of}
use Rattle.rw_base.specs.PartLaws.{node_below}
use Rattle.yaml_tree.proofs.EntrySteps.{below_at}
use Rattle.yaml_tree.proofs.Around.{leaf_start, node_start}
use Rattle.yaml_tree.proofs.scalars.start_at.Goals as goal

pub leaves_of-requires : goal.leaves_of-requires
leaves_of-requires c =
    let count = length c.args.tree.now.leaves in
    let ps = c.parts-parts.result.now in
    let low : c.args.k < length ps = omega (arith, c.requires.part, ap length c.parts-parts.ensures.parts) in
    omega (
      arith,
      c.requires.node,
      node_below count c.args.n.0 ps c.args.k _ c.in-Node.m
          (below_at count c.args.n.0 ps c.args.k c.parts-parts.ensures.below) low c.in-Node.is,
    )

pub returns-in-Leaf : goal.returns-in-Leaf
returns-in-Leaf c =
    let ps = c.parts-parts.result.now in
    let low : c.args.k < length ps = omega (arith, c.requires.part, ap length c.parts-parts.ensures.parts) in
    leaf_start c.args.tree.now c.root.ensures.tree c.args.n.0 c.requires.node ps c.parts-parts.ensures.parts c.args.k _
    low c.in-Leaf.i c.in-Leaf.is

pub returns-in-Node : goal.returns-in-Node
returns-in-Node c =
    let rows = c.args.tree.now.nodes in
    let ps = c.parts-parts.result.now in
    let low : c.args.k < length ps = omega (arith, c.requires.part, ap length c.parts-parts.ensures.parts) in
    subst (λ x. Runs rows (drop c.args.k (parts_of rows c.args.n.0)) x (past_of rows c.args.n.0))
    (sym c.leaves_of.ensures.first)
    (node_start c.args.tree.now c.root.ensures.tree c.args.n.0 c.requires.node ps c.parts-parts.ensures.parts c.args.k _
    low c.in-Node.m c.in-Node.is)
