use Rattle.std.proofs.Common.{◌≡◌, ◌++◌, [], take, drop}
use Rattle.j_names.specs.Calls.{not_hidden}
use Rattle.j_names.proofs.hiding.candidates.Given as goal

abbrev pub invariant-loop-at : goal.invariant-loop-at
invariant-loop-at l =
    l.all ++ not_hidden (take l.at l.methods) (drop l.at l.methods) ≡ not_hidden [] l.methods
