use Rattle.std.proofs.Common.{map, take}
use Rattle.class_world.specs.Once.{AreFirsts}
use Rattle.class_world.proofs.firsts.first_of_each.Given as goal

abbrev pub invariant-loop-declared : goal.invariant-loop-declared
invariant-loop-declared l =
    AreFirsts l.names (map (λ d. d.now) l.firsts.items) (map (λ d. d.now) (take l.declared-index l.all))
