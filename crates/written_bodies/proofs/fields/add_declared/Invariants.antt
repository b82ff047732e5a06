use Rattle.rw_base.specs.Arena.{kind_of}
use Rattle.rw_base.specs.Laid.{forest_of}
use Rattle.written_bodies.specs.Bodies.{name_in, declared_fields, IsFieldOf}
use Rattle.written_bodies.proofs.Gathering.{Walking}
use Rattle.written_bodies.proofs.fields.add_declared.Given as goal

abbrev pub invariant-loop-part : goal.invariant-loop-part
invariant-loop-part l =
    let names = name_in l.tree.leaves (forest_of l.tree.nodes l.parts) in
    Walking (IsFieldOf l.tree) (declared_fields l.tree.leaves l.ty.0 (kind_of l.tree.nodes l.ty.0) names)
    l.tree l.parts l.fn.out l.out l.part-index
