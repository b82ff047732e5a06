use Rattle.std.proofs.Common.{◌≡◌, ◌∷◌, ◌+◌, ◌*◌, ◌≤◌, drop}
use Rattle.declared_types.specs.Erasure.{count_params}
use Rattle.declared_types.proofs.erasure.count_params.Given as goal

abbrev pub invariant-loop-scope : goal.invariant-loop-scope
invariant-loop-scope l = record {
  counted : l.count + count_params (drop l.scope-index l.outer) ≡ count_params (l.own ∷ l.outer);
  bounded : l.count ≤ (l.scope-index + 1) * 18446744073709551615;
}
