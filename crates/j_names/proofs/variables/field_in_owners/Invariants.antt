use Rattle.std.proofs.Common.{None, take, map}
use Rattle.std.specs.Option.{option_copied}
use Rattle.dialogue.specs.Dialogue.{first_found}
use Rattle.dialogue.specs.Told.{Told}
use Rattle.j_names.specs.Members.{field_of}
use Rattle.j_names.proofs.variables.field_in_owners.Given as goal

abbrev pub invariant-loop-owner : goal.invariant-loop-owner
invariant-loop-owner g l =
    Told (first_found (map (field_of (option_copied l.fn.top) l.n) (take l.owner-index l.owners)))
    (g.C.Classes.world l.c) l.initial.asks l.asks None
