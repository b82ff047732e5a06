use Rattle.std.proofs.Common.{take}
use Rattle.declared_types.specs.Supertypes.{class_written}
use Rattle.declared_types.proofs.Classes.{Found}
use Rattle.declared_types.proofs.supertypes.put_classes.Given as goal

abbrev pub invariant-loop-w : goal.invariant-loop-w
invariant-loop-w g l =
    Found (class_written l.cx l.frames) (take l.w-index l.types) (g.C.Classes.world l.c) l.initial.asks l.asks
    l.initial.names.items l.names.items
