use Rattle.std.proofs.Common.{◌≡◌, ◌++◌, map, take}
use Rattle.class_world.specs.Worlds.{all_declared}
use Rattle.class_world.proofs.firsts.put_all.Given as goal

abbrev pub invariant-loop-skeleton : goal.invariant-loop-skeleton
invariant-loop-skeleton l =
    map (λ d. d.now) l.all.items
    ≡ map (λ d. d.now) l.initial.all.items ++ all_declared (take l.skeleton-index l.skeletons)
