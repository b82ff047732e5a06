use Rattle.std.proofs.Common.{◌≡◌, ◌++◌, map, take}
use Rattle.class_world.proofs.firsts.put_types.Given as goal

abbrev pub invariant-loop-declared : goal.invariant-loop-declared
invariant-loop-declared l =
    map (λ d. d.now) l.all.items ≡ map (λ d. d.now) l.initial.all.items ++ take l.declared-index l.skeleton.types
