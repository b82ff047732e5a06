use Rattle.std.proofs.Common.{◌∙◌, sym}
use Rattle.operator_types.proofs.Looking.{told_without_look, told_by_look}
use Rattle.operator_types.proofs.conditional.conditional_type_asking.Goals as goal

pub returns-in-Some : goal.returns-in-Some
returns-in-Some g c = record { told = told_without_look c.args.a.now c.args.b.now _ _ _ (sym c.in-Some.is ∙ c.in_ok-t.ensures) }

pub returns : goal.returns
returns g c = record { told = told_by_look c.args.a.now c.args.b.now _ _ _ _ (sym c.in_default.is ∙ c.in_ok-t.ensures) c.in_ok-t-2.ensures }
