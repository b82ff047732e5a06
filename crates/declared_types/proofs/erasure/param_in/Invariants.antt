use Rattle.std.proofs.Common.{◌≡◌, drop, filter}
use Rattle.jtypes.specs.World.{name_eq, first}
use Rattle.declared_types.proofs.erasure.param_in.Given as goal

abbrev pub invariant-loop-param : goal.invariant-loop-param
invariant-loop-param l =
    first (filter (λ p. name_eq p.name l.name) (drop l.param-index l.scope.params))
    ≡ first (filter (λ p. name_eq p.name l.name) l.scope.params)
