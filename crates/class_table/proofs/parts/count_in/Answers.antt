use Rattle.std.proofs.Common.{◌≡◌, ◌∙◌, ℕ, sym, ap, length, arith}
use Rattle.rw_base.specs.PartLaws.{below_next}
use Rattle.class_table.specs.Finding.{count_in}
use Rattle.class_table.proofs.Steps.{at_start, at_leaf, at_node, at_end, when, unless}
use Rattle.class_table.proofs.parts.count_in.Goals as goal
use Rattle.class_table.proofs.parts.count_in.Goals.{in-Leaf, in-Node+then-kind, in-Node+else-kind}

pub loop-part-init : goal.loop-part-init
loop-part-init c = record {
  same = λ b. omega (
    arith,
    ap (count_in c.args.kind)
        (at_start c.args.tree.now b c.args.n.0 _ c.parts-parts.ensures.kids),
  );
  few = omega arith;
  below = c.parts-parts.ensures.below;
}

pub loop-part-preserved : goal.loop-part-preserved
loop-part-preserved c =
    let t = c.args.tree.now in
    let ps = c.parts-parts.result.now in
    let k = c.loop-part.part-index in
    let lt = c.loop-part-test.true in
    let below = below_next (length t.leaves) c.args.n.0 ps k c.loop-part.invariant.below lt in
    elim c.match-part.branch [
      | in-Leaf w ↦ record {
        same = λ b. omega (
          arith,
          w.count-is,
          c.loop-part.invariant.same b,
          ap (count_in c.args.kind) (at_leaf t b ps k _ _ lt w.in-Leaf.is),
        );
        few = omega (arith, w.count-is, c.loop-part.invariant.few);
        below = below;
      }
      | in-Node+then-kind w ↦ record {
        same = λ b. omega (
          arith,
          w.count-is,
          c.loop-part.invariant.same b,
          ap (count_in c.args.kind) (at_node t b ps k _ w.in-Node.m lt w.in-Node.is),
          when {A = ℕ} 1 0 _ _ (sym w.kind.ensures ∙ w.if-kind.true),
        );
        few = omega (arith, w.count-is, c.loop-part.invariant.few);
        below = below;
      }
      | in-Node+else-kind w ↦ record {
        same = λ b. omega (
          arith,
          w.count-is,
          c.loop-part.invariant.same b,
          ap (count_in c.args.kind) (at_node t b ps k _ w.in-Node.m lt w.in-Node.is),
          unless {A = ℕ} 1 0 _ _ (λ e. w.if-kind.false (w.kind.ensures ∙ e)),
        );
        few = omega (arith, w.count-is, c.loop-part.invariant.few);
        below = below;
      }
    ]

pub returns-clause-count : goal.returns-clause-count
returns-clause-count c = λ b. omega (
  arith,
  c.loop-part.invariant.same b,
  ap (count_in c.args.kind)
      (at_end c.args.tree.now b c.parts-parts.result.now c.loop-part.part-index c.loop-part-test.false),
)
