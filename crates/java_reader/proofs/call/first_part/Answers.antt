use Rattle.std.proofs.Common.{◌+◌, ◌-◌, ◌/◌, arith}
use Rattle.java_reader.proofs.SkipSteps.{part_in, begins_later}
use Rattle.java_reader.proofs.call.first_part.Goals as goal

pub ends_before-requires : goal.ends_before-requires
ends_before-requires c =
    part_in c.args.tree.now c.args.n.0 c.requires c.parts-parts.result.now _ _ c.parts-parts.ensures.below
    (omega (arith, c.loop-from-test.true, c.loop-from.invariant.inside))

pub loop-from-preserved-then-ends_before : goal.loop-from-preserved-then-ends_before
loop-from-preserved-then-ends_before c = record {
  order = omega (arith, c.loop-from-test.true);
  inside = c.loop-from.invariant.inside;
  before =
      begins_later c.args.tree.now c.args.n.0 c.args.first c.parts-parts.result.now
      (c.loop-from.from + (c.loop-from.to - c.loop-from.from) / 2) _ c.parts-parts.ensures.parts c.root.ensures.tree
      c.requires (omega (arith, c.loop-from-test.true, c.loop-from.invariant.inside))
      (c.ends_before.ensures c.if-ends_before.true);
}
