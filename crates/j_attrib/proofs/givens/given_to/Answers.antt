use Rattle.std.proofs.Common.{◌∙◌, ◌+◌, ap, drop, sym, length}
use Rattle.rw_base.specs.Arena.{kind_of}
use Rattle.rw_base.specs.Laid.{forest_of, kids_of}
use Rattle.judged_trees.specs.Sites.{site_of}
use Rattle.rw_base.specs.PartLaws.{leaf_next, node_next}
use Rattle.java_reader.specs.Kinds.{kind_in}
use Rattle.j_attrib.proofs.PartsAhead.{node_in}
use Rattle.j_attrib.proofs.GivenSteps.{given_leaf, given_node}
use Rattle.j_attrib.proofs.givens.given_to.Goals as goal

pub kind-requires-in-Some : goal.kind-requires-in-Some
kind-requires-in-Some c =
    rw c.tree-tree.ensures (node_in (length c.args.u.now.tree.leaves) _ c.args.parts.now c.args.from _ c.in-Node.m
    c.requires.below c.requires.part c.in-Node.is)

pub returns-in-Leaf : goal.returns-in-Leaf
returns-in-Leaf c =
    given_leaf c.args.u.now _ c.args.values.now _ _ _
    (leaf_next c.args.u.now.tree.nodes c.args.parts.now c.args.from _ _ c.requires.part c.in-Leaf.is)

pub returns-in-Some : goal.returns-in-Some
returns-in-Some c =
    let u = c.args.u.now in
    let rows = u.tree.nodes in
    let ps = c.args.parts.now in
    let m = c.in-Node.m in
    let is_node = node_next rows ps c.args.from _ m c.requires.part c.in-Node.is in
    let is_kind = sym (rw c.tree-tree.ensures at (c.kind_in.ensures ∙ ap kind_in c.kind.ensures)) ∙ c.in-Some.is in
    let same = given_node u (site_of u.tree c.args.node.0 ps c.args.given.now) c.args.values.now m.0
    (kind_of rows m.0) (kids_of rows m.0) (forest_of rows (drop (c.args.from + 1) ps))
    (forest_of rows (drop c.args.from ps)) c.in-Some.kind is_kind is_node in
    rw same at (rw c.tree-tree.ensures at (rw c.kind-in-Some.ensures at c.given_by.ensures))
