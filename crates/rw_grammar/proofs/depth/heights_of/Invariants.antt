use Rattle.std.proofs.Common.{◌≡◌, ◌≤◌, ℕ, take}
use Rattle.std.specs.Prelude.{slice_index}
use Rattle.rw_grammar.specs.Depth.{all_heights}
use Rattle.rw_grammar.proofs.depth.heights_of.Given as goal

abbrev pub invariant-loop-n : goal.invariant-loop-n
invariant-loop-n l = record {
  are : l.heights.items ≡ all_heights (take l.n l.nodes);
  few : (n : ℕ) → slice_index l.heights.items n ≤ l.n;
}
