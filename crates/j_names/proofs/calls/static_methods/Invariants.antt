use Rattle.std.proofs.Common.{[], take}
use Rattle.std.specs.Option.{option_copied}
use Rattle.dialogue.specs.Dialogue.{in_turn}
use Rattle.dialogue.specs.Told.{Told}
use Rattle.j_names.specs.Calls.{and_static}
use Rattle.j_names.proofs.calls.static_methods.Given as goal

abbrev pub invariant-loop-owner : goal.invariant-loop-owner
invariant-loop-owner g l =
    Told (in_turn (and_static (option_copied l.fn.top) l.n) [] (take l.owner-index l.owners))
    (g.C.Classes.world l.c) l.initial.asks l.asks l.found
