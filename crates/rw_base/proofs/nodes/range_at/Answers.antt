use Rattle.std.proofs.Common.{◌∙◌, ℕ, ◌≤◌, length, slice_range, slice_index_or, sym, ap, subst}
use Rattle.rw_base.specs.declared.nodes.NodeHead.{NodeHead}
use Rattle.rw_base.proofs.HeadLemmas.{row_is, inside}
use Rattle.rw_base.proofs.nodes.range_at.Goals as goal

abbrev no_head : NodeHead
no_head = record { kind = 0; first = 0; past = 0; parts_end = 0 }

pub returns-clause-value : goal.returns-clause-value
returns-clause-value c =
    let e : ℕ = (slice_index_or c.args.heads.now c.args.n no_head).parts_end in
    ap (λ s. slice_range c.args.parts.now s e) c.start_at-start.ensures
    ∙ sym (ap (λ r. r.parts) (row_is c.args.parts.now 0 c.args.heads.now c.args.n no_head c.requires.node))

pub returns-clause-order : goal.returns-clause-order
returns-clause-order c =
    let e : ℕ = (slice_index_or c.args.heads.now c.args.n no_head).parts_end in
    subst (λ s. s ≤ e) (sym c.start_at-start.ensures) (inside 0 (length c.args.parts.now) c.args.heads.now c.args.n no_head c.requires.whole c.requires.node).0

pub returns-clause-inside : goal.returns-clause-inside
returns-clause-inside c = (inside 0 (length c.args.parts.now) c.args.heads.now c.args.n no_head c.requires.whole c.requires.node).1
