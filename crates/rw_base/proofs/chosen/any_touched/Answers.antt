use Rattle.std.proofs.Common.{None, length, sym, ◌∙◌}
use Rattle.rw_base.specs.PartLaws.{leaf_below, node_below}
use Rattle.rw_base.proofs.Touching.{see_leaf, see_node, all_seen}
use Rattle.rw_base.proofs.chosen.any_touched.Goals as goal
use Rattle.rw_base.proofs.chosen.any_touched.Goals.{in-Leaf, in-Node}

pub loop-part-init : goal.loop-part-init
loop-part-init c = record { below = c.requires; rest = λ u. u }

pub bounds-leaves-i : goal.bounds-leaves-i
bounds-leaves-i c = leaf_below (length c.args.leaves.now) (length c.args.touched.now) c.args.parts.now c.loop-part.part-index _ c.in-Leaf.i c.loop-part.invariant.below c.loop-part-test.true c.in-Leaf.is

pub bounds-touched-m : goal.bounds-touched-m
bounds-touched-m c = node_below (length c.args.leaves.now) (length c.args.touched.now) c.args.parts.now c.loop-part.part-index _ c.in-Node.m c.loop-part.invariant.below c.loop-part-test.true c.in-Node.is

pub loop-part-preserved : goal.loop-part-preserved
loop-part-preserved c = elim c.match-part.branch [
  | in-Leaf w ↦ see_leaf c.args.leaves.now c.args.touched.now c.args.parts.now c.loop-part.part-index c.loop-part-test.true c.loop-part.invariant w.in-Leaf.i _ None w.in-Leaf.is (sym w.is_some-is.ensures ∙ (sym w.is-is ∙ c.if-is.false))
  | in-Node w ↦ see_node c.args.leaves.now c.args.touched.now c.args.parts.now c.loop-part.part-index c.loop-part-test.true c.loop-part.invariant w.in-Node.m _ _ w.in-Node.is (sym w.is-is ∙ c.if-is.false)
]

pub returns : goal.returns
returns c = λ _. all_seen c.args.leaves.now c.args.touched.now c.args.parts.now c.loop-part.part-index c.loop-part-test.false c.loop-part.invariant
