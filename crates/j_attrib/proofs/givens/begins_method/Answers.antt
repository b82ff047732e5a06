use Rattle.std.proofs.Common.{◌∙◌, ap, sym, length, nat_eq}
use Rattle.rw_base.specs.PartLaws.{leaf_next, node_next, none_next}
use Rattle.j_attrib.proofs.PartsAhead.{node_in}
use Rattle.j_attrib.specs.Givens.{begins_method}
use Rattle.j_attrib.specs.declared.kinds.TheConstants.{METHOD}
use Rattle.j_attrib.proofs.givens.begins_method.Goals as goal

pub returns-then-place-parts : goal.returns-then-place-parts
returns-then-place-parts c =
    sym (ap begins_method (none_next c.args.tree.now.nodes c.args.parts.now c.args.place c.if-place-parts.true))

pub kind-requires : goal.kind-requires
kind-requires c =
    node_in (length c.args.tree.now.leaves) _ c.args.parts.now c.args.place _ c.in-Node.m c.requires
    c.if-place-parts.false c.in-Node.is

pub returns-in-Leaf : goal.returns-in-Leaf
returns-in-Leaf c =
    sym (ap begins_method
    (leaf_next c.args.tree.now.nodes c.args.parts.now c.args.place _ _ c.if-place-parts.false c.in-Leaf.is))

pub returns-in-Node : goal.returns-in-Node
returns-in-Node c =
    ap (λ k. nat_eq k METHOD) c.kind.ensures ∙ sym (ap begins_method
    (node_next c.args.tree.now.nodes c.args.parts.now c.args.place _ c.in-Node.m c.if-place-parts.false c.in-Node.is))
