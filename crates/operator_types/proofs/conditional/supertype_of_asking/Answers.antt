use Rattle.operator_types.proofs.Looking.{supertype_told}
use Rattle.operator_types.proofs.conditional.supertype_of_asking.Goals as goal

pub returns : goal.returns
returns g c = supertype_told c.args.a.now c.args.b.now _ _ _ _ _ _ _ c.in_ok-below.ensures c.in_ok-above.ensures c.in_ok-t.ensures
