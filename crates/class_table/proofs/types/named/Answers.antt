use Rattle.std.proofs.Common.{◌≡◌, ◌∙◌, ◌+◌, sym, ap, length, drop, arith}
use Rattle.rw_base.specs.Arena.{leaf_at, text_of}
use Rattle.declared_types.specs.declared.written.Base.TheVariants as base
use Rattle.declared_types.specs.declared.written.NamePart.{NamePart}
use Rattle.class_table.specs.TypesWritten.{named, part_of_name, names_in}
use Rattle.class_table.specs.Words.{trees_of}
use Rattle.class_table.proofs.FirstParts.{first_leaf, first_node, no_first, is_none, is_there}
use Rattle.class_table.proofs.types.named.Goals as goal

pub returns-then-is_empty : goal.returns-then-is_empty
returns-then-is_empty c =
    sym (ap named (no_first c.args.tree.now c.args.bytes.now c.args.n.0 c.parts-parts.result.now
    c.parts-parts.ensures.kids (is_none (length c.parts-parts.result.now) c.if-is_empty.ensures)))

pub returns-in-Node : goal.returns-in-Node
returns-in-Node c =
    sym (ap named (first_node c.args.tree.now c.args.bytes.now c.args.n.0 c.parts-parts.result.now
    c.parts-parts.ensures.kids _ c.in-Node.field-0
    (is_there (length c.parts-parts.result.now) c.if-is_empty.ensures) c.in-Node.is))

pub returns-in_ok-others-in-Leaf : goal.returns-in_ok-others-in-Leaf
returns-in_ok-others-in-Leaf c =
    let t = c.args.tree.now in
    let b = c.args.bytes.now in
    ap (λ x. base.Named (part_of_name x) c.in_ok-others-in-Leaf.others) (c.in_ok-name-in-Leaf.ensures ∙ c.text.ensures)
    ∙ (ap (λ xs. base.Named (part_of_name (text_of b (leaf_at t.leaves c.in-Leaf.i))) xs)
    (c.in_ok-others-in-Leaf.ensures ∙ ap (λ ps. names_in (trees_of t b (drop 1 ps))) (sym c.parts-parts.ensures.parts))
    ∙ sym (ap named (first_leaf t b c.args.n.0 c.parts-parts.result.now c.parts-parts.ensures.kids _ c.in-Leaf.i
    (is_there (length c.parts-parts.result.now) c.if-is_empty.ensures) c.in-Leaf.is)))
