use Rattle.std.proofs.Common.{sym, subst}
use Rattle.j_names.specs.Indexed.{IsChained}
use Rattle.j_names.proofs.Linking.{chained_zero}
use Rattle.j_names.proofs.chains.grow.Goals as goal

pub loop-heads-preserved : goal.loop-heads-preserved
loop-heads-preserved c links h =
    subst (λ hs. IsChained links hs) (sym c.in_ok-push.ensures.items)
    (chained_zero links c.loop-heads.heads.items (c.loop-heads.invariant links h))
