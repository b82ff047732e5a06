use Rattle.std.proofs.Common.{◌≡◌, ℕ}
use Rattle.rw_base.specs.Trees.{none, node, Forest}
use Rattle.rw_base.specs.Laid.{rows_from}
use Rattle.rw_grammar.specs.Results.{too_deep}
use Rattle.rw_grammar.proofs.DepthLaws.{Spot}
use Rattle.rw_grammar.proofs.depth.first_too_deep.Given as goal

abbrev pub invariant-down : goal.invariant-down
invariant-down l = (k : ℕ) (kids : Forest) → l.nodes ≡ rows_from 0 0 (node tt k kids none) → Spot l.nodes (too_deep 0 0 (node tt k kids none)) l.n l.allowed

abbrev pub decreases-down : goal.decreases-down
decreases-down l = l.n
