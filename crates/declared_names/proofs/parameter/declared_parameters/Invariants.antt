use Rattle.std.proofs.Common.{◌≡◌, ◌++◌, take}
use Rattle.declared_names.specs.Declarations.{parameter_notes}
use Rattle.declared_names.proofs.parameter.declared_parameters.Given as goal

abbrev pub invariant-loop-param : goal.invariant-loop-param
invariant-loop-param l =
    (l.log.notes ≡ l.fn.log.notes ++ parameter_notes (take l.param-index l.params)) × (l.log.asks ≡ l.fn.log.asks)
