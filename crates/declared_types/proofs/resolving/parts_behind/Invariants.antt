use Rattle.std.proofs.Common.{take}
use Rattle.dialogue.specs.Dialogue.{in_turn}
use Rattle.dialogue.specs.Told.{Told}
use Rattle.declared_types.specs.Resolving.{part_behind}
use Rattle.declared_types.proofs.resolving.parts_behind.Given as goal

abbrev pub invariant-loop-part : goal.invariant-loop-part
invariant-loop-part g l = Told (in_turn (part_behind l.cx) l.initial.meaning (take l.part-index l.parts))
    (g.C.Classes.world l.c) l.initial.asks l.asks l.meaning
