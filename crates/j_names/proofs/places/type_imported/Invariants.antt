use Rattle.std.proofs.Common.{◌≡◌, drop}
use Rattle.j_names.specs.Names.{first_kind}
use Rattle.j_names.proofs.places.type_imported.Given as goal

abbrev pub invariant-loop-row : goal.invariant-loop-row
invariant-loop-row l = first_kind l.n (drop l.row-index l.rows) ≡ first_kind l.n l.rows
