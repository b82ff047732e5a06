use Rattle.std.proofs.Common.{◌<◌, length}
use Rattle.written_bodies.specs.Bodies.{classes_in}
use Rattle.written_bodies.proofs.Below.{past_of}
use Rattle.written_bodies.proofs.Gathering.{Walking}
use Rattle.written_bodies.proofs.members.+add_classes.Given as goal

abbrev pub decreases-add_classes : goal.decreases-add_classes
decreases-add_classes l = past_of l.parts.now

abbrev pub invariant-loop-part : goal.invariant-loop-part
invariant-loop-part l =
    Walking (λ i. i < length l.tree.leaves) (classes_in l.tree.leaves)
    l.tree l.parts l.fn.out l.out l.part-index
