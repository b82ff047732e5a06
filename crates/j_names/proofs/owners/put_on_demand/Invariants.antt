use Rattle.std.proofs.Common.{◌≡◌, ◌++◌, take, map, filter}
use Rattle.j_names.specs.Names.{is_static_on_demand}
use Rattle.j_names.proofs.owners.put_on_demand.Given as goal

abbrev pub invariant-loop-row : goal.invariant-loop-row
invariant-loop-row l = l.owners.items
    ≡ l.initial.owners.items ++ map (λ row. row.name) (filter is_static_on_demand (take l.row-index l.rows))
