use Rattle.std.proofs.Common.{take, map, filter}
use Rattle.std.specs.Option.{option_copied}
use Rattle.dialogue.specs.Told.{Told}
use Rattle.dialogue.specs.Dialogue.{in_turn}
use Rattle.j_names.specs.Names.{look_on_demand, is_package_row}
use Rattle.j_names.specs.declared.packages.OnDemand.TheVariants.{Nothing}
use Rattle.j_names.proofs.on_demand.type_on_demand.Given as goal

abbrev pub invariant-loop-row : goal.invariant-loop-row
invariant-loop-row g l = Told (in_turn (look_on_demand (option_copied l.fn.top) l.n) Nothing
    (map (λ row. row.name) (filter is_package_row (take l.row-index l.rows))))
    (g.C.Classes.world l.c) l.initial.asks l.asks l.so_far
