use Rattle.std.proofs.Common.{◌∙◌, ap, sym, Some, ◌-◌, length, refl, arith}
use Rattle.std.proofs.lemmas.Option.{slice_get_read}
use Rattle.j_overload.proofs.TypeLists.{spread_front, spread_end}
use Rattle.j_overload.proofs.parameters.spread_type.Goals as goal

pub returns-then-at-last : goal.returns-then-at-last
returns-then-at-last c k lt =
    let ps = c.args.params.now in
    spread_front ps k c.args.at (omega arith) lt ∙ slice_get_read ps (length ps) c.args.at c.index-params-at.result refl (omega arith) c.index-params-at.is

pub returns-else-at-last : goal.returns-else-at-last
returns-else-at-last c k lt =
    let ps = c.args.params.now in
    let last = length ps - 1 in
    spread_end ps k c.args.at last c.index-params-last.result (slice_get_read ps (length ps) last c.index-params-last.result refl (omega arith) c.index-params-last.is) (omega arith) (omega arith) lt
    ∙ ap Some (sym c.element_type.ensures)
