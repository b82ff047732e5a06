use Rattle.std.proofs.Common.{◌≡◌, ◌++◌, take, map, filter}
use Rattle.j_names.specs.Names.{front_part, is_static_of}
use Rattle.j_names.proofs.owners.put_single.Given as goal

abbrev pub invariant-loop-row : goal.invariant-loop-row
invariant-loop-row l = l.owners.items
    ≡ l.initial.owners.items ++ map (λ row. front_part row.name) (filter (is_static_of l.n) (take l.row-index l.rows))
