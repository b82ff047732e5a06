use Rattle.std.proofs.Common.{◌+◌, ◌*◌, length, drop}
use Rattle.rw_base.specs.Arena.{AreBelow}
use Rattle.rw_base.specs.Laid.{forest_of}
use Rattle.judged_trees.specs.Sites.{site_of}
use Rattle.judged_trees.proofs.Walking.{Walking}
use Rattle.judged_trees.proofs.walk.+judge.Given as goal

abbrev pub decreases-judge_parts : goal.decreases-judge_parts
decreases-judge_parts g l = 2 * l.node.0 + 1

abbrev pub decreases-judge_part : goal.decreases-judge_part
decreases-judge_part g l = 2 * l.node.0

abbrev pub invariant-judge_parts-loop-from : goal.invariant-judge_parts-loop-from
invariant-judge_parts-loop-from g l = record {
  walking : Walking (g.T.TreeTables.tables l.tables) (site_of l.tree l.node.0 l.parts l.given)
      (g.T.TreeTables.world l.tables) (forest_of l.tree.nodes (drop l.from l.parts)) l.initial.frames l.frames
      l.initial.values.items l.values.items l.initial.log l.log;
  below : AreBelow (length l.tree.leaves) l.node.0 (drop l.from l.parts);
}
