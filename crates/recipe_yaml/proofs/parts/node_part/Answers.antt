use Rattle.std.proofs.Common.{◌<◌, length, sym, ap, arith}
use Rattle.rw_base.specs.Laid.{kids_of}
use Rattle.rw_base.specs.PartLaws.{node_below}
use Rattle.yaml_tree.specs.Entries.{node_first}
use Rattle.recipe_yaml.proofs.NodeParts.{none_behind, leaf_behind, node_behind, below_at}
use Rattle.recipe_yaml.proofs.parts.node_part.Goals as goal

pub returns-then-k-parts-clause-node : goal.returns-then-k-parts-clause-node
returns-then-k-parts-clause-node c =
    let rows = c.args.tree.now.nodes in
    sym (ap node_first (none_behind rows c.parts-parts.result.now (kids_of rows c.args.n.0)
    c.parts-parts.ensures.kids c.args.k
    c.if-k-parts.true))

pub returns-in-Leaf-clause-node : goal.returns-in-Leaf-clause-node
returns-in-Leaf-clause-node c =
    let rows = c.args.tree.now.nodes in
    sym (ap node_first (leaf_behind rows c.parts-parts.result.now (kids_of rows c.args.n.0)
    c.parts-parts.ensures.kids c.args.k _ _
    c.if-k-parts.false c.in-Leaf.is))

pub returns-in-Node-clause-node : goal.returns-in-Node-clause-node
returns-in-Node-clause-node c =
    let rows = c.args.tree.now.nodes in
    sym (ap node_first (node_behind rows c.parts-parts.result.now (kids_of rows c.args.n.0)
    c.parts-parts.ensures.kids c.args.k _ c.in-Node.m
    c.if-k-parts.false c.in-Node.is))

pub returns-in-Node-clause-inside : goal.returns-in-Node-clause-inside
returns-in-Node-clause-inside c =
    let count = length c.args.tree.now.leaves in
    let ps = c.parts-parts.result.now in
    let below : c.in-Node.m.0 < c.args.n.0 =
    node_below count c.args.n.0 ps c.args.k _ c.in-Node.m (below_at count c.args.n.0 ps c.args.k
    c.parts-parts.ensures.below)
    c.if-k-parts.false c.in-Node.is in
    omega (arith, below, c.requires)
