use Rattle.std.proofs.Common.{take}
use Rattle.dialogue.specs.Dialogue.{each}
use Rattle.dialogue.specs.Told.{Told}
use Rattle.declared_types.specs.Signatures.{param_written}
use Rattle.declared_types.proofs.members.params_of.Given as goal

abbrev pub invariant-loop-param : goal.invariant-loop-param
invariant-loop-param g l =
    Told (each (param_written l.body l.own) (take l.param-index l.params)) (g.C.Classes.world l.c) l.initial.asks l.asks
    l.types.items
