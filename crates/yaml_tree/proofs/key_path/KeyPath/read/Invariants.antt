use Rattle.std.proofs.Common.{◌-◌, length}
use Rattle.yaml_tree.specs.KeyPaths.{AreNames}
use Rattle.yaml_tree.specs.PathReading.{GoesOn}
use Rattle.yaml_tree.proofs.key_path.KeyPath.read.Given as goal

abbrev pub invariant-loop-steps : goal.invariant-loop-steps
invariant-loop-steps l = GoesOn AreNames l.text l.steps.items l.at

abbrev pub decreases-loop-steps : goal.decreases-loop-steps
decreases-loop-steps l = length l.text - l.at
