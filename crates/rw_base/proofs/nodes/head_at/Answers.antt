use Rattle.std.proofs.Common.{sym, ap}
use Rattle.rw_base.proofs.HeadLemmas.{row_is}
use Rattle.rw_base.proofs.nodes.head_at.Goals as goal

pub returns-clause-kind : goal.returns-clause-kind
returns-clause-kind c ps = sym (ap (λ r. r.kind) (row_is ps 0 c.args.heads.now c.args.n _ c.requires))

pub returns-clause-first : goal.returns-clause-first
returns-clause-first c ps = sym (ap (λ r. r.first) (row_is ps 0 c.args.heads.now c.args.n _ c.requires))

pub returns-clause-past : goal.returns-clause-past
returns-clause-past c ps = sym (ap (λ r. r.past) (row_is ps 0 c.args.heads.now c.args.n _ c.requires))
