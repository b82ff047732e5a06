use Rattle.std.proofs.Common.{◌≡◌, drop, filter}
use Rattle.jtypes.specs.World.{first}
use Rattle.declared_names.specs.Declarations.{has_parameters}
use Rattle.declared_names.proofs.methods.first_with.Given as goal

abbrev pub invariant-loop-method : goal.invariant-loop-method
invariant-loop-method l =
    first (filter (has_parameters l.params) (drop l.method-index l.methods))
    ≡ first (filter (has_parameters l.params) l.methods)
