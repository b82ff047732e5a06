use Rattle.std.proofs.Common.{sym, subst}
use Rattle.j_overload.specs.Choices.{Chosen}
use Rattle.j_overload.proofs.Decided.{chosen_by_rule}
use Rattle.j_overload.proofs.choosing.choose.Goals as goal

pub returns : goal.returns
returns g c =
    let w = g.C.Classes.world c.args.c.now in
    let cs = c.args.candidates.now in
    let args = c.args.args.now in
    subst (Chosen w cs args) (sym c.in_ok-choice.ensures.gives) (chosen_by_rule w cs args)
