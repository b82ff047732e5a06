use Rattle.std.proofs.Common.{◌<◌, length, subst, sym, arith}
use Rattle.std.proofs.lemmas.List.Elements.{All-push}
use Rattle.rw_base.specs.declared.tree.NodeId.{NodeId}
use Rattle.rw_base.specs.PartLaws.{below_next, node_below}
use Rattle.recipe_yaml.specs.Nodes.{nodes_of}
use Rattle.recipe_yaml.specs.Parts.{IsNode, AreNodes}
use Rattle.recipe_yaml.proofs.NodeParts.{nodes_end, nodes_leaf, nodes_node}
use Rattle.recipe_yaml.proofs.parts.nodes_of.Goals as goal
use Rattle.recipe_yaml.proofs.parts.nodes_of.Goals.{in-Leaf, in-Node+in_ok-push-in-Node}

pub loop-part-preserved : goal.loop-part-preserved
loop-part-preserved c =
    let t = c.args.tree.now in
    let rows = t.nodes in
    let ps = c.parts-parts.result.now in
    let k = c.loop-part.part-index in
    let out = c.loop-part.nodes.items in
    let all = nodes_of t c.args.n in
    let below = below_next (length t.leaves) c.args.n.0 ps k c.loop-part.invariant.below c.loop-part-test.true in
    elim c.match-part.branch [
      | in-Leaf w ↦ record {
        same = rw w.nodes-is (nodes_leaf rows ps all out k _ c.loop-part-test.true c.loop-part.invariant.same _
            w.in-Leaf.is);
        below = below;
        inside = rw w.nodes-is c.loop-part.invariant.inside;
      }
      | in-Node+in_ok-push-in-Node w ↦
          let m : NodeId = w.in-Node.m in
          let lower : m.0 < c.args.n.0 = node_below (length t.leaves) c.args.n.0 ps k _ m
          c.loop-part.invariant.below c.loop-part-test.true w.in-Node.is in
          let inside : IsNode t m = omega (arith, lower, c.requires) in
          record {
            same = rw w.nodes-is (nodes_node rows ps all out k _ c.loop-part-test.true c.loop-part.invariant.same m _
                w.in-Node.is w.in_ok-push-in-Node.ensures.items);
            below = below;
            inside = rw w.nodes-is (subst (AreNodes t) (sym w.in_ok-push-in-Node.ensures.items)
                (All-push (IsNode t) out m c.loop-part.invariant.inside inside));
          }
    ]

pub returns-clause-nodes : goal.returns-clause-nodes
returns-clause-nodes c =
    nodes_end c.args.tree.now.nodes c.parts-parts.result.now (nodes_of c.args.tree.now c.args.n) c.loop-part.nodes.items
    c.loop-part.part-index c.loop-part-test.false c.loop-part.invariant.same
