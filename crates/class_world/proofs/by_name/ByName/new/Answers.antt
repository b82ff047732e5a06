use Rattle.std.proofs.Common.{◌≡◌, ◌∙◌, sym, ap, subst, rules}
use Rattle.std.specs.Cmp.Lexicographic.{slice_cmp}
use Rattle.std.specs.List.Sorted.{IsSortedByKey}
use Rattle.std.specs.Ordering.{nat_cmp}
use Rattle.std.proofs.lemmas.List.Sorted.{answers_always}
use Rattle.class_world.specs.Rows.{of_name}
use Rattle.class_world.proofs.Halves.{before, ranked, kept_by_name}
use Rattle.class_world.proofs.by_name.ByName.new.Goals as goal

pub invariant_of-result : goal.invariant_of-result
invariant_of-result g c =
    let name = g.T.Named.name_of in
    subst (λ ys. IsSortedByKey name (slice_cmp nat_cmp) ys) (sym (c.from_vec.ensures ∙ c.shrink_to_fit.ensures.items))
    (c.in_ok-sort_by.ensures.sorted (before name) (ranked name) (answers_always _ _ _ (λ f a r q k. search rules)))

pub returns : goal.returns
returns g c n =
    let name = g.T.Named.name_of in
    ap (λ ys. of_name name n ys) (c.from_vec.ensures ∙ c.shrink_to_fit.ensures.items)
    ∙ kept_by_name name c.args.members.items c.sort_by.new.self.items
    (c.in_ok-sort_by.ensures.stable (before name) (ranked name) (answers_always _ _ _ (λ f a r q k. search rules))) n
