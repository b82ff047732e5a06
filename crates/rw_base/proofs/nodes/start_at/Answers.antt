use Rattle.std.proofs.Common.{sym, arith}
use Rattle.rw_base.proofs.HeadLemmas.{start_first, start_behind}
use Rattle.rw_base.proofs.nodes.start_at.Goals as goal

pub returns-then-n-eq0 : goal.returns-then-n-eq0
returns-then-n-eq0 c = sym (start_first 0 c.args.heads.now c.args.n (omega (c.if-n-eq0.true, arith)))

pub returns-else-n-eq0 : goal.returns-else-n-eq0
returns-else-n-eq0 c = sym (start_behind 0 c.args.heads.now c.args.n _ (omega (c.if-n-eq0.false, arith)) c.requires)
