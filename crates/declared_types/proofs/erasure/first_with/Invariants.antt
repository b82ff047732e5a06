use Rattle.std.proofs.Common.{◌≡◌, ◌∷◌, drop}
use Rattle.declared_types.specs.Erasure.{from_scope}
use Rattle.declared_types.proofs.erasure.first_with.Given as goal

abbrev pub invariant-loop-at : goal.invariant-loop-at
invariant-loop-at l =
    from_scope l.name (drop l.at (l.own ∷ l.outer)) ≡ from_scope l.name (drop l.from (l.own ∷ l.outer))
