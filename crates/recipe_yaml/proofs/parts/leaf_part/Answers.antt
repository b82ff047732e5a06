use Rattle.std.proofs.Common.{length, sym, ap}
use Rattle.rw_base.specs.Laid.{kids_of}
use Rattle.rw_base.specs.PartLaws.{leaf_below}
use Rattle.yaml_tree.specs.Entries.{leaf_first}
use Rattle.recipe_yaml.proofs.NodeParts.{none_behind, leaf_behind, node_behind, below_at}
use Rattle.recipe_yaml.proofs.parts.leaf_part.Goals as goal

pub returns-then-k-parts-clause-leaf : goal.returns-then-k-parts-clause-leaf
returns-then-k-parts-clause-leaf c =
    let rows = c.args.tree.now.nodes in
    sym (ap leaf_first (none_behind rows c.parts-parts.result.now (kids_of rows c.args.n.0)
    c.parts-parts.ensures.kids c.args.k
    c.if-k-parts.true))

pub returns-in-Leaf-clause-leaf : goal.returns-in-Leaf-clause-leaf
returns-in-Leaf-clause-leaf c =
    let rows = c.args.tree.now.nodes in
    sym (ap leaf_first (leaf_behind rows c.parts-parts.result.now (kids_of rows c.args.n.0)
    c.parts-parts.ensures.kids c.args.k _ _
    c.if-k-parts.false c.in-Leaf.is))

pub returns-in-Leaf-clause-inside : goal.returns-in-Leaf-clause-inside
returns-in-Leaf-clause-inside c =
    let count = length c.args.tree.now.leaves in
    let ps = c.parts-parts.result.now in
    leaf_below count c.args.n.0 ps c.args.k _ _ (below_at count c.args.n.0 ps c.args.k c.parts-parts.ensures.below)
    c.if-k-parts.false c.in-Leaf.is

pub returns-in-Node-clause-leaf : goal.returns-in-Node-clause-leaf
returns-in-Node-clause-leaf c =
    let rows = c.args.tree.now.nodes in
    sym (ap leaf_first (node_behind rows c.parts-parts.result.now (kids_of rows c.args.n.0)
    c.parts-parts.ensures.kids c.args.k _ _
    c.if-k-parts.false c.in-Node.is))
