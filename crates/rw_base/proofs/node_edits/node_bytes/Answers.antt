use Rattle.std.proofs.Common.{◌∙◌}
use Rattle.rw_base.proofs.Spans.{node_lies}
use Rattle.rw_base.proofs.node_edits.node_bytes.Goals as goal

pub range_at-requires-clause-order : goal.range_at-requires-clause-order
range_at-requires-clause-order c =
    let e = c.leaves_of-first.ensures in
    (node_lies c.args.tree.now c.args.bytes.now c.args.n.0 c.leaves_of-first.result.0 c.leaves_of-first.result.1 c.leaf-from.result c.leaf-to.result e.tree c.requires.node e.first e.past c.if-first-past.false c.leaf-from.ensures.leaf c.leaf-to.ensures.leaf).order

pub returns : goal.returns
returns c =
    let e = c.leaves_of-first.ensures in
    c.range_at.ensures ∙ (node_lies c.args.tree.now c.args.bytes.now c.args.n.0 c.leaves_of-first.result.0 c.leaves_of-first.result.1 c.leaf-from.result c.leaf-to.result e.tree c.requires.node e.first e.past c.if-first-past.false c.leaf-from.ensures.leaf c.leaf-to.ensures.leaf).range
