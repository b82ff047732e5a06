use Rattle.std.proofs.Common.{◌≡◌, map, take}
use Rattle.jtypes.specs.World.{world_of}
use Rattle.class_world.specs.Rows.{rows_world}
use Rattle.class_world.specs.Worlds.{fields_in, methods_in}
use Rattle.class_world.proofs.rows.rows_in.Given as goal

abbrev pub invariant-loop-at : goal.invariant-loop-at
invariant-loop-at g l =
    rows_world l.rows ≡ world_of (take l.at l.headers)
    (fields_in (g.C.Classes.world l.c) (take l.at (map (λ d. d.now) l.types)))
    (methods_in (g.C.Classes.world l.c) (take l.at (map (λ d. d.now) l.types)))
