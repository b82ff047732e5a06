use Rattle.std.proofs.Common.{take}
use Rattle.dialogue.specs.Dialogue.{each}
use Rattle.dialogue.specs.Told.{Told}
use Rattle.declared_types.specs.Signatures.{method_of}
use Rattle.declared_types.proofs.members.declared_methods.Given as goal

abbrev pub invariant-loop-m : goal.invariant-loop-m
invariant-loop-m g l =
    Told (each (method_of l.body) (take l.m-index l.methods)) (g.C.Classes.world l.c) l.initial.asks l.asks
    l.declared.items
