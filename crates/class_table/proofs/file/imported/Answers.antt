use Rattle.std.proofs.Common.{◌≡◌, ◌∙◌, ◌+◌, ◌++◌, true, false, sym, ap, length, drop, ℕ, List, Option, Some}
use Rattle.class_table.specs.declared.file.ImportName.{ImportName}
use Rattle.rw_base.specs.PartLaws.{below_next}
use Rattle.class_table.specs.Words.{trees_of, parts_at}
use Rattle.class_table.specs.Files.{imported, text_in}
use Rattle.class_table.proofs.Steps.{at_start, at_leaf, at_node, at_end, choose, otherwise}
use Rattle.class_table.proofs.file.imported.Goals as goal
use Rattle.class_table.proofs.file.imported.Goals.{in-Leaf, in-Node+else-on_demand+then-has}
use Rattle.class_table.proofs.file.imported.Goals.{in-Node+else-on_demand+else-has+in_ok-add_text-in-Node}

pub loop-part-init : goal.loop-part-init
loop-part-init c = record {
  same = ap (imported false c.args.first.items)
      (sym (at_start c.args.tree.now c.args.bytes.now c.args.n.0 _ c.parts-parts.ensures.kids));
  below = c.parts-parts.ensures.below;
}

pub returns-then-on_demand : goal.returns-then-on_demand
returns-then-on_demand c =
    sym (ap (imported c.loop-part.on_demand c.loop-part.name.items)
    (at_node c.args.tree.now c.args.bytes.now c.parts-parts.result.now c.loop-part.part-index _ c.in-Node.m
    c.loop-part-test.true c.in-Node.is)
    ∙ choose _ _ c.if-on_demand.true)
    ∙ c.loop-part.invariant.same

pub loop-part-preserved : goal.loop-part-preserved
loop-part-preserved c =
    let t = c.args.tree.now in
    let b = c.args.bytes.now in
    let ps = c.parts-parts.result.now in
    let k = c.loop-part.part-index in
    let lt = c.loop-part-test.true in
    let od = c.loop-part.on_demand in
    let old = c.loop-part.name.items in
    let same = c.loop-part.invariant.same in
    let below = below_next (length t.leaves) c.args.n.0 ps k c.loop-part.invariant.below lt in
    elim c.match-part.branch [
      | in-Leaf w ↦ record {
        same = rw (w.name-is, w.on_demand-is)
            (sym (ap (imported od old) (at_leaf t b ps k _ _ lt w.in-Leaf.is)) ∙ same);
        below = below;
      }
      | in-Node+else-on_demand+then-has w ↦ record {
        same = rw (w.name-is, w.on_demand-is)
            (sym (ap (imported od old) (at_node t b ps k _ w.in-Node.m lt w.in-Node.is)
            ∙ (otherwise _ _ w.if-on_demand.false ∙ choose _ _ (sym (w.has.ensures b) ∙ w.if-has.true)))
            ∙ same);
        below = below;
      }
      | in-Node+else-on_demand+else-has+in_ok-add_text-in-Node w ↦ record {
        same = rw (w.name-is, w.on_demand-is)
            (ap (λ x. imported od x (trees_of t b (drop (k + 1) ps))) w.in_ok-add_text-in-Node.ensures
            ∙ (ap (λ x. imported x (old ++ text_in (parts_at t b w.in-Node.m.0)) (trees_of t b (drop (k + 1) ps)))
            w.if-on_demand.false
            ∙ (sym (ap (imported od old) (at_node t b ps k _ w.in-Node.m lt w.in-Node.is)
            ∙ (otherwise _ _ w.if-on_demand.false ∙ otherwise _ _ (sym (w.has.ensures b) ∙ w.if-has.false)))
            ∙ same)));
        below = below;
      }
    ]

pub returns : goal.returns
returns c =
    let found : List ℕ → Option ImportName = λ x. Some (record { name = x; on_demand = c.loop-part.on_demand }) in
    ap found c.from_vec-name.ensures
    ∙ (sym (ap (imported c.loop-part.on_demand c.loop-part.name.items)
    (at_end c.args.tree.now c.args.bytes.now c.parts-parts.result.now c.loop-part.part-index c.loop-part-test.false))
    ∙ c.loop-part.invariant.same)
