use Rattle.std.proofs.Common.{◌∙◌, ap, sym, get_or, arith, if◌then◌else◌}
use Rattle.j_overload.specs.declared.choice.Choice.TheVariants.{Method, Ambiguous}
use Rattle.j_overload.proofs.Picks.{within_at, no_positions, rest_is}
use Rattle.j_overload.proofs.Equals.{none_first, first_is}
use Rattle.j_overload.proofs.TypeLists.{at_place}
use Rattle.j_overload.proofs.specific.first_of_equals.Goals as goal

pub returns-in-empty : goal.returns-in-empty
returns-in-empty c = sym (none_first c.args.candidates.now c.args.best.now (no_positions c.args.best.now c.in-empty.len_below))

pub returns-then-has_parameters_of_all : goal.returns-then-has_parameters_of_all
returns-then-has_parameters_of_all c =
    let cs = c.args.candidates.now in
    let is = c.args.best.now in
    let m = c.index-candidates-first.result in
    let there = at_place cs (get_or is 0 0) m (within_at cs is 0 c.requires (omega arith)) c.index-candidates-first.is in
    sym (first_is cs is m (omega arith) there ∙ ap (λ b. if b then Method (get_or is 0 0) else Ambiguous) (sym (rw (rest_is is) at c.has_parameters_of_all.ensures) ∙ c.if-has_parameters_of_all.true))

pub returns-else-has_parameters_of_all : goal.returns-else-has_parameters_of_all
returns-else-has_parameters_of_all c =
    let cs = c.args.candidates.now in
    let is = c.args.best.now in
    let m = c.index-candidates-first.result in
    let there = at_place cs (get_or is 0 0) m (within_at cs is 0 c.requires (omega arith)) c.index-candidates-first.is in
    sym (first_is cs is m (omega arith) there ∙ ap (λ b. if b then Method (get_or is 0 0) else Ambiguous) (sym (rw (rest_is is) at c.has_parameters_of_all.ensures) ∙ c.if-has_parameters_of_all.false))
