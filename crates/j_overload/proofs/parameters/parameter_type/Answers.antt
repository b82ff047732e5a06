use Rattle.j_overload.specs.Parameters.{parameter_types}
use Rattle.j_overload.proofs.TypeLists.{fixed_at}
use Rattle.j_overload.proofs.parameters.parameter_type.Goals as goal

pub returns-in-Strict : goal.returns-in-Strict
returns-in-Strict c k lt = fixed_at c.args.phase c.args.m.now k c.args.at c.index-as_slice-at.result c.in-Strict.is c.requires (rw c.as_slice.ensures at c.index-as_slice-at.is)

pub returns-in-Variable : goal.returns-in-Variable
unfolding parameter_types
returns-in-Variable c k lt = rw (c.in-Variable.is, ← c.as_slice-in-Variable.ensures) (c.spread_type.ensures k lt)
