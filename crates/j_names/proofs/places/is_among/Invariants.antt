use Rattle.std.proofs.Common.{◌≡◌, drop}
use Rattle.j_names.specs.Walk.{is_in}
use Rattle.j_names.proofs.places.is_among.Given as goal

abbrev pub invariant-loop-name : goal.invariant-loop-name
invariant-loop-name l = is_in (drop l.name-index l.names) l.n ≡ is_in l.names l.n
