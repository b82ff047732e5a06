use Rattle.std.proofs.Common.{◌≡◌, take}
use Rattle.class_world.proofs.layers.copies.Given as goal

abbrev pub invariant-loop-header : goal.invariant-loop-header
invariant-loop-header l = l.copies.items ≡ take l.header-index l.headers
