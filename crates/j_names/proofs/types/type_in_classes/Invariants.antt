use Rattle.std.proofs.Common.{None, drop, map}
use Rattle.std.specs.Prelude.{reverse}
use Rattle.std.specs.Option.{option_copied}
use Rattle.dialogue.specs.Told.{Told}
use Rattle.dialogue.specs.Dialogue.{first_found}
use Rattle.j_names.specs.Names.{type_in_class}
use Rattle.j_names.proofs.types.type_in_classes.Given as goal

abbrev pub invariant-loop-i : goal.invariant-loop-i
invariant-loop-i g l = Told (first_found (map (type_in_class (option_copied l.fn.top) l.n)
    (reverse (drop l.i l.classes)))) (g.C.Classes.world l.c) l.initial.asks l.asks None
