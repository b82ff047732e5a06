use Rattle.std.proofs.Common.{◌≡◌, ◌∙◌, sym, ap, subst, [], ◌∷◌, ◌++◌, ◌+◌, length, length-append}
use Rattle.std.specs.Prelude.{slice_set}
use Rattle.j_names.specs.Indexed.{IsChained}
use Rattle.j_names.specs.declared.link.Link.{Link}
use Rattle.j_names.proofs.Linking.{chained_put}
use Rattle.j_names.proofs.chains.put.Goals as goal

pub returns-clause-chained : goal.returns-clause-chained
returns-clause-chained c =
    let ls = c.args.links.now.items in
    let hs = c.args.heads.now.items in
    let l : Link = record { number = c.args.number; before = c.index-before.result.now } in
    let long : length c.as_slice.result.now ≡ length ls + 1 =
    ap length (c.as_slice.ensures.value ∙ c.in_ok-push.ensures.items) ∙ length-append ls (l ∷ []) in
    subst (λ xs. IsChained xs (slice_set hs c.args.number (length c.as_slice.result.now)))
    (sym c.in_ok-push.ensures.items)
    (subst (λ k. IsChained (ls ++ l ∷ []) (slice_set hs c.args.number k)) (sym long)
    (chained_put ls hs c.requires.chained l c.requires.known
    c.index-before.ensures))
