use Rattle.rw_base.proofs.Touching.{IsSeeing}
use Rattle.rw_base.proofs.chosen.any_touched.Given as goal

abbrev pub invariant-loop-part : goal.invariant-loop-part
invariant-loop-part l = IsSeeing l.leaves l.touched l.parts l.part-index
