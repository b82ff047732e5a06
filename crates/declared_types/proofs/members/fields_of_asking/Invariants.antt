use Rattle.std.proofs.Common.{take}
use Rattle.dialogue.specs.Dialogue.{each}
use Rattle.dialogue.specs.Told.{Told}
use Rattle.declared_types.specs.Signatures.{field_in}
use Rattle.declared_types.proofs.members.fields_of_asking.Given as goal

abbrev pub invariant-loop-f : goal.invariant-loop-f
invariant-loop-f g l =
    Told (each (field_in l.d.name l.own) (take l.f-index l.d.fields)) (g.C.Classes.world l.c) l.initial.asks l.asks
    l.fields.items
