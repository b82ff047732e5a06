use Rattle.std.proofs.Common.{◌≡◌, ◌∙◌, sym, ap, length, subst, arith}
use Rattle.std.specs.Prelude.{IfOk}
use Rattle.rw_base.specs.declared.tree.Leaf.{Leaf}
use Rattle.declared_types.specs.declared.written.Base.TheVariants as base
use Rattle.class_table.specs.TypesWritten.{named, base_of, prim_named}
use Rattle.class_table.proofs.Steps.{when, unless}
use Rattle.class_table.proofs.FirstParts.{first_leaf, first_node, no_first, is_none, is_there}
use Rattle.class_table.proofs.types.base_of.Goals as goal

pub returns-then-is_empty : goal.returns-then-is_empty
returns-then-is_empty c =
    sym (ap base_of (no_first c.args.tree.now c.args.bytes.now c.args.n.0 c.parts-parts.result.now
    c.parts-parts.ensures.kids (is_none (length c.parts-parts.result.now) c.if-is_empty.ensures)))

pub returns-then-leaf-eq-PRIM : goal.returns-then-leaf-eq-PRIM
returns-then-leaf-eq-PRIM c =
    ap base.Prim (c.prim_named.ensures ∙ ap prim_named c.text.ensures)
    ∙ sym (ap base_of (first_leaf c.args.tree.now c.args.bytes.now c.args.n.0 c.parts-parts.result.now
    c.parts-parts.ensures.kids _ c.in-Leaf.i
    (is_there (length c.parts-parts.result.now) c.if-is_empty.ensures) c.in-Leaf.is)
    ∙ when _ _ _ _ (ap (λ (l : Leaf). l.class) (sym c.leaf.ensures.leaf) ∙ c.if-leaf-eq-PRIM.true))

pub returns-in-Node : goal.returns-in-Node
returns-in-Node c =
    subst (λ x. IfOk c.named.result (λ base. base ≡ x))
    (sym (ap base_of (first_node c.args.tree.now c.args.bytes.now c.args.n.0 c.parts-parts.result.now
    c.parts-parts.ensures.kids _ c.in-Node.m
    (is_there (length c.parts-parts.result.now) c.if-is_empty.ensures) c.in-Node.is)))
    c.named.ensures

pub returns-else-leaf-eq-PRIM : goal.returns-else-leaf-eq-PRIM
returns-else-leaf-eq-PRIM c =
    let first = first_leaf c.args.tree.now c.args.bytes.now c.args.n.0 c.parts-parts.result.now
    c.parts-parts.ensures.kids _ c.in-Leaf.i
    (is_there (length c.parts-parts.result.now) c.if-is_empty.ensures) c.in-Leaf.is in
    subst (λ x. IfOk c.named-in-Leaf.result (λ base. base ≡ x))
    (ap named first
    ∙ sym (ap base_of first
    ∙ unless _ _ _ _ (λ e. c.if-leaf-eq-PRIM.false (ap (λ (l : Leaf). l.class) c.leaf.ensures.leaf ∙ e))))
    c.named-in-Leaf.ensures
