use Rattle.std.proofs.Common.{◌≡◌, take}
use Rattle.class_table.proofs.around.copied_classes.Given as goal

abbrev pub invariant-loop-class : goal.invariant-loop-class
invariant-loop-class l = l.out.items ≡ take l.class-index l.classes
