use Rattle.std.proofs.Common.{None, drop, map}
use Rattle.std.specs.Prelude.{reverse}
use Rattle.std.specs.Option.{option_copied}
use Rattle.dialogue.specs.Dialogue.{first_found}
use Rattle.dialogue.specs.Told.{Told}
use Rattle.j_names.specs.Members.{field_of}
use Rattle.j_names.proofs.variables.field_in_classes.Given as goal

abbrev pub invariant-loop-i : goal.invariant-loop-i
invariant-loop-i g l =
    Told (first_found (map (λ e. field_of (option_copied l.fn.top) l.n e.name) (reverse (drop l.i l.classes))))
    (g.C.Classes.world l.c) l.initial.asks l.asks None
