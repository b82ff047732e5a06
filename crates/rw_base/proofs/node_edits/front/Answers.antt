use Rattle.std.proofs.Common.{sym, ap, ◌∙◌, arith}
use Rattle.rw_base.specs.Arena.{prefix_of, leaf_at}
use Rattle.rw_base.proofs.Spans.{no_front, some_front}
use Rattle.rw_base.proofs.node_edits.front.Goals as goal

pub prefix-requires-clause-leaf : goal.prefix-requires-clause-leaf
prefix-requires-clause-leaf c =
    let tree = c.leaves_of-first.ensures.tree in
    let e = c.leaves_of-first.ensures in
    omega (arith, c.if-first-past.false, e.first, e.past, tree.ordered c.args.n.0 c.requires.node, tree.inside c.args.n.0 c.requires.node)

pub returns-then-first-past : goal.returns-then-first-past
returns-then-first-past c =
    sym (no_front c.args.tree.now c.args.bytes.now c.args.n.0 (sym c.leaves_of-first.ensures.first ∙ (c.if-first-past.true ∙ c.leaves_of-first.ensures.past)))

pub returns-else-first-past : goal.returns-else-first-past
returns-else-first-past c =
    let e = c.leaves_of-first.ensures in
    c.prefix.ensures ∙ (ap (λ i. prefix_of c.args.bytes.now (leaf_at c.args.tree.now.leaves i)) e.first
    ∙ sym (some_front c.args.tree.now c.args.bytes.now c.args.n.0 (λ same. c.if-first-past.false (e.first ∙ (same ∙ sym e.past)))))
