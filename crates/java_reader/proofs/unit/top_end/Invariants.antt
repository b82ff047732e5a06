use Rattle.std.proofs.Common.{◌≡◌, ◌+◌, drop}
use Rattle.rw_base.specs.Arena.{first_of, past_of}
use Rattle.rw_base.specs.Laid.{kids_of, forest_of}
use Rattle.java_reader.specs.Units.{top_width}
use Rattle.rw_base.specs.WalkLaws.{Stands}
use Rattle.java_reader.proofs.unit.top_end.Given as goal

abbrev pub invariant-loop-part : goal.invariant-loop-part
invariant-loop-part l = record {
  same : l.end + top_width (forest_of l.tree.nodes (drop l.part-index l.parts)) ≡ first_of l.tree.nodes l.fn.n.0 + top_width (kids_of l.tree.nodes l.fn.n.0);
  stands : Stands l.tree l.fn.n.0 (past_of l.tree.nodes l.fn.n.0) (drop l.part-index l.parts) l.end;
}
