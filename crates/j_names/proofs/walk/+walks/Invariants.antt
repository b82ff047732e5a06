use Rattle.std.proofs.Common.{◌+◌, ◌*◌, take}
use Rattle.dialogue.specs.Told.{Told}
use Rattle.dialogue.specs.Dialogue.{in_turn}
use Rattle.j_names.specs.Walk.{sought, walked, walk_up}
use Rattle.j_names.proofs.walk.+walks.Given as goal

abbrev pub decreases-walk_each : goal.decreases-walk_each
decreases-walk_each g l = 2 * l.left + 1

abbrev pub decreases-walk_up : goal.decreases-walk_up
decreases-walk_up g l = 2 * l.left

abbrev pub invariant-walk_each-loop-name : goal.invariant-walk_each-loop-name
invariant-walk_each-loop-name g l =
    Told (in_turn (walk_up (sought g.S.Seek.over (g.S.Seek.visited l.seek)) l.left)
    (walked l.initial.found l.initial.seen) (take l.name-index l.names))
    (g.C.Classes.world l.c) l.initial.asks l.asks (walked l.found l.seen)
