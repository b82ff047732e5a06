use Rattle.std.proofs.Common.{◌≡◌, ◌++◌, take, filter}
use Rattle.j_names.proofs.calls.put_static.Given as goal

abbrev pub invariant-loop-m : goal.invariant-loop-m
invariant-loop-m l = l.found ≡ l.initial.found ++ filter (λ m. m.is_static) (take l.m-index l.methods)
