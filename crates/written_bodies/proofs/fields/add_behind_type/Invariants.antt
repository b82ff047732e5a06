use Rattle.rw_base.specs.Arena.{kind_of}
use Rattle.written_bodies.specs.Bodies.{fields_behind, IsFieldOf}
use Rattle.written_bodies.proofs.Gathering.{Walking}
use Rattle.written_bodies.proofs.fields.add_behind_type.Given as goal

abbrev pub invariant-loop-part : goal.invariant-loop-part
invariant-loop-part l =
    Walking (IsFieldOf l.tree) (fields_behind l.tree.leaves l.ty.0 (kind_of l.tree.nodes l.ty.0))
    l.tree l.parts l.fn.out l.out l.part-index
