use Rattle.std.proofs.Common.{◌≡◌, take}
use Rattle.class_table.proofs.around.copied_scopes.Given as goal

abbrev pub invariant-loop-scope : goal.invariant-loop-scope
invariant-loop-scope l = l.out.items ≡ take l.scope-index l.scopes
