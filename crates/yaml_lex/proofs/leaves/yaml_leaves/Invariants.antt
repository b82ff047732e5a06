use Rattle.std.proofs.Common.{◌-◌, ◌≤◌, length, reverse}
use Rattle.yaml_lex.proofs.Cutting.{IsSoFar}
use Rattle.yaml_lex.proofs.leaves.yaml_leaves.Given as goal

abbrev pub invariant-pieces : goal.invariant-pieces
invariant-pieces l = record {
  so_far : IsSoFar l.bytes l.text l.broken l.leaves.items l.from l.at l.context (reverse l.collections.items);
  column : l.context.column ≤ l.at;
  depth : l.context.depth ≤ l.at;
}

abbrev pub decreases-pieces : goal.decreases-pieces
decreases-pieces l = length l.text - l.at
