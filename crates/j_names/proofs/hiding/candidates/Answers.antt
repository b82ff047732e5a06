use Rattle.std.proofs.Common.{◌∙◌, sym, ap, ◌++◌, take, arith, append-nil}
use Rattle.std.proofs.lemmas.List.{drop_all}
use Rattle.j_names.specs.Calls.{candidates, not_hidden}
use Rattle.j_names.proofs.hiding.candidates.Goals as goal

pub returns : goal.returns
unfolding candidates
returns c =
    let ms = c.args.methods.now in
    let at = c.loop-at.at in
    record {
      value =
          sym (append-nil c.loop-at.all)
          ∙ ap (λ xs. c.loop-at.all ++ not_hidden (take at ms) xs)
          (sym (drop_all at ms (omega (arith, c.loop-at-test.false))))
          ∙ c.loop-at.invariant;
    }
