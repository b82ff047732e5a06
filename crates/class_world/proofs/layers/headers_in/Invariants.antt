use Rattle.std.proofs.Common.{◌≡◌, map, take}
use Rattle.class_world.specs.Worlds.{headers_in}
use Rattle.class_world.proofs.layers.headers_in.Given as goal

abbrev pub invariant-loop-declared : goal.invariant-loop-declared
invariant-loop-declared g l =
    l.headers.items ≡ headers_in (g.C.Classes.world l.c) (map (λ d. d.now) (take l.declared-index l.types))
