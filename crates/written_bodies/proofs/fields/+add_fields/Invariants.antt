use Rattle.written_bodies.specs.Bodies.{fields_in, IsFieldOf}
use Rattle.written_bodies.proofs.Below.{past_of}
use Rattle.written_bodies.proofs.Gathering.{Walking}
use Rattle.written_bodies.proofs.fields.+add_fields.Given as goal

abbrev pub decreases-add_fields : goal.decreases-add_fields
decreases-add_fields l = past_of l.parts.now

abbrev pub invariant-loop-part : goal.invariant-loop-part
invariant-loop-part l = Walking (IsFieldOf l.tree) (fields_in l.tree.leaves) l.tree l.parts l.fn.out l.out l.part-index
