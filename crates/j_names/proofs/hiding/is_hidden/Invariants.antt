use Rattle.std.proofs.Common.{◌≡◌, drop}
use Rattle.j_names.specs.Calls.{is_hidden}
use Rattle.j_names.proofs.hiding.is_hidden.Given as goal

abbrev pub invariant-loop-e : goal.invariant-loop-e
invariant-loop-e l = is_hidden (drop l.e-index l.earlier) l.m ≡ is_hidden l.earlier l.m
