use Rattle.std.proofs.Common.{◌≡◌, drop}
use Rattle.j_names.specs.Names.{declared_local}
use Rattle.j_names.proofs.variables.declared_local.Given as goal

abbrev pub invariant-loop-field : goal.invariant-loop-field
invariant-loop-field l = declared_local (drop l.field-index l.fields) l.n ≡ declared_local l.fields l.n
