use Rattle.std.proofs.Common.{◌≡◌, max, drop}
use Rattle.std.specs.Prelude.{slice_index}
use Rattle.rw_grammar.specs.Depth.{highest_of}
use Rattle.rw_grammar.proofs.depth.highest.Given as goal

abbrev pub invariant-loop-part : goal.invariant-loop-part
invariant-loop-part l = max l.height (highest_of (slice_index l.heights) (drop l.part-index l.parts)) ≡ highest_of (slice_index l.heights) l.parts
