use Rattle.std.proofs.Common.{◌≡◌, ◌≤◌, take}
use Rattle.declared_types.proofs.scopes.first_classes.Given as goal

abbrev pub invariant-loop-class : goal.invariant-loop-class
invariant-loop-class l = record {
  copied : l.copies.items ≡ take l.class-index l.classes;
  within : l.class-index ≤ l.count;
}
