use Rattle.std.proofs.Common.{◌≡◌, [], map, take}
use Rattle.declared_types.specs.Supertypes.{header_with}
use Rattle.class_world.proofs.layers.written_headers.Given as goal

abbrev pub invariant-loop-declared : goal.invariant-loop-declared
invariant-loop-declared l =
    l.headers.items ≡ map (header_with []) (map (λ d. d.now) (take l.declared-index l.types))
