use Rattle.std.proofs.Common.{◌≡◌, ◌++◌, [], drop}
use Rattle.type_positions.specs.Declarations.{package_notes}
use Rattle.type_positions.proofs.package.package_name.Given as goal

abbrev pub invariant-loop-part : goal.invariant-loop-part
invariant-loop-part l = record {
  notes : l.log.notes ++ package_notes l.package (drop l.part-index l.names) ≡ l.initial.log.notes ++ package_notes [] l.names;
  asks : l.log.asks ≡ l.initial.log.asks;
}
