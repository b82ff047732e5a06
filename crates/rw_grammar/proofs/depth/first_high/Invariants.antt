use Rattle.std.proofs.Common.{◌≡◌, drop}
use Rattle.std.specs.Prelude.{slice_index}
use Rattle.rw_grammar.specs.Depth.{first_above}
use Rattle.rw_grammar.proofs.depth.first_high.Given as goal

abbrev pub invariant-loop-part : goal.invariant-loop-part
invariant-loop-part l = first_above (slice_index l.heights) l.height (drop l.part-index l.parts) ≡ first_above (slice_index l.heights) l.height l.parts
