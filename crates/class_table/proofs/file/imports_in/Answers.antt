use Rattle.std.proofs.Common.{◌≡◌, ◌∙◌, ◌++◌, sym, ap, length}
use Rattle.rw_base.specs.PartLaws.{below_next}
use Rattle.class_table.specs.Words.{trees_of}
use Rattle.class_table.specs.Finding.{of_nodes}
use Rattle.class_table.specs.Files.{import_node}
use Rattle.class_table.proofs.Steps.{at_start}
use Rattle.class_table.proofs.Gathering.{leaf_of, node_of, end_of_nodes}
use Rattle.class_table.proofs.file.imports_in.Goals as goal
use Rattle.class_table.proofs.file.imports_in.Goals.{in-Leaf, in-Node+in_ok-add_import-in-Node}

pub loop-part-init : goal.loop-part-init
loop-part-init c = record {
  same =
      ap (λ x. x ++ of_nodes import_node (trees_of c.args.tree.now c.args.bytes.now c.parts-parts.result.now))
      c.new-out.ensures.items
      ∙ ap (of_nodes import_node)
      (sym (at_start c.args.tree.now c.args.bytes.now c.args.n.0 _ c.parts-parts.ensures.kids));
  below = c.parts-parts.ensures.below;
}

pub loop-part-preserved : goal.loop-part-preserved
loop-part-preserved c =
    let t = c.args.tree.now in
    let b = c.args.bytes.now in
    let ps = c.parts-parts.result.now in
    let k = c.loop-part.part-index in
    let lt = c.loop-part-test.true in
    let old = c.loop-part.out.items in
    let same = c.loop-part.invariant.same in
    let below = below_next (length t.leaves) c.args.n.0 ps k c.loop-part.invariant.below lt in
    elim c.match-part.branch [
      | in-Leaf w ↦ record {
        same = rw w.out-is (leaf_of import_node t b ps k old _ same _ _ lt w.in-Leaf.is);
        below = below;
      }
      | in-Node+in_ok-add_import-in-Node w ↦ record {
        same = rw w.out-is (node_of import_node t b ps k old _ same _ w.in-Node.m _ lt w.in-Node.is
            w.in_ok-add_import-in-Node.ensures);
        below = below;
      }
    ]

pub returns : goal.returns
returns c =
    end_of_nodes import_node c.args.tree.now c.args.bytes.now c.parts-parts.result.now c.loop-part.part-index
    c.loop-part.out.items _ c.loop-part.invariant.same c.loop-part-test.false
