use Rattle.std.proofs.Common.{◌∙◌, sym, ap, refl, arith}
use Rattle.rw_base.specs.Arena.{past_of}
use Rattle.java_reader.specs.Units.{is_plain, role_of, top_width}
use Rattle.rw_base.specs.WalkLaws.{stands_first}
use Rattle.java_reader.proofs.UnitSteps.{top_leaf, top_none, top_here, top_on, top_stands}
use Rattle.java_reader.proofs.unit.top_end.Goals as goal

pub loop-part-init : goal.loop-part-init
loop-part-init c = record {
  same = omega (arith, c.leaves_of-end.ensures.first, ap top_width c.parts-parts.ensures.kids);
  stands = stands_first c.args.tree.now c.leaves_of-end.ensures.tree c.args.n.0 c.requires c.parts-parts.result.now c.leaves_of-end.result.0 (past_of c.args.tree.now.nodes c.args.n.0) c.parts-parts.ensures.parts c.leaves_of-end.ensures.first refl;
}

pub returns-in-Leaf : goal.returns-in-Leaf
returns-in-Leaf c = omega (arith, c.loop-part.invariant.same, top_leaf c.args.tree.now.nodes c.parts-parts.result.now c.loop-part.part-index _ c.in-Leaf.field-0 c.loop-part-test.true c.in-Leaf.is)

pub returns-then-not-is_plain : goal.returns-then-not-is_plain
returns-then-not-is_plain c =
    omega (
      arith,
      c.loop-part.invariant.same,
      top_here c.args.tree.now c.leaves_of-end.ensures.tree c.args.n.0 c.requires c.parts-parts.result.now c.loop-part.part-index _ c.loop-part-test.true c.in-Node.m c.in-Node.is c.loop-part.end c.loop-part.invariant.stands
          (ap (λ k. is_plain (role_of k)) (sym c.kind.ensures) ∙ (ap is_plain (sym c.role_of.ensures) ∙ (sym c.is_plain.ensures ∙ c.if-not-is_plain.true))),
    )

pub loop-part-preserved : goal.loop-part-preserved
loop-part-preserved c = record {
  same =
      omega (
        arith,
        c.loop-part.invariant.same,
        c.leaves_of-end-in-Node.ensures.past,
        top_on c.args.tree.now c.leaves_of-end.ensures.tree c.args.n.0 c.requires c.parts-parts.result.now c.loop-part.part-index _ c.loop-part-test.true c.in-Node.m c.in-Node.is c.loop-part.end c.loop-part.invariant.stands
            (ap (λ k. is_plain (role_of k)) (sym c.kind.ensures) ∙ (ap is_plain (sym c.role_of.ensures) ∙ (sym c.is_plain.ensures ∙ c.if-not-is_plain.false))),
      );
  stands =
      rw c.leaves_of-end-in-Node.ensures.past
      (top_stands c.args.tree.now c.leaves_of-end.ensures.tree c.args.n.0 c.requires c.parts-parts.result.now c.loop-part.part-index _ c.loop-part-test.true c.in-Node.m c.in-Node.is c.loop-part.end c.loop-part.invariant.stands);
}

pub returns : goal.returns
returns c = omega (arith, c.loop-part.invariant.same, top_none c.args.tree.now.nodes c.parts-parts.result.now c.loop-part.part-index c.loop-part-test.false)
