use Rattle.std.proofs.Common.{subst}
use Rattle.j_names.specs.Indexed.{IsChained}
use Rattle.j_names.proofs.Linking.{chained_off}
use Rattle.j_names.proofs.chains.take_off.Goals as goal

pub returns-in-Some-clause-chained : goal.returns-in-Some-clause-chained
returns-in-Some-clause-chained c =
    let hs = c.args.heads.now.items in
    chained_off c.pop.new.self.items hs c.in-Some.link
    (subst (λ xs. IsChained xs hs) c.in-Some.ensures.items c.requires)
