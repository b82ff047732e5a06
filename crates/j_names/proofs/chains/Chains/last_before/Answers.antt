use Rattle.std.proofs.Common.{◌≡◌, subst, [], drop, take, filter, nat_eq}
use Rattle.j_names.proofs.Linking.{passed_numbers}
use Rattle.j_names.proofs.chains.Chains.last_before.Goals as goal

pub returns-clause-silent : goal.returns-clause-silent
returns-clause-silent c =
    let n = c.args.number in
    let end = c.args.end in
    let place = c.last_in.result in
    subst (λ xs. filter (λ i. nat_eq i n) (drop place (take end xs)) ≡ []) c.self.view_is
    (passed_numbers n end c.self.inside.links.items place (rw c.deref.ensures.value at c.last_in.ensures.passed))
