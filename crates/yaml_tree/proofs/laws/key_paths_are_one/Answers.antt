use Rattle.yaml_tree.proofs.PathSteps.{same_paths}
use Rattle.yaml_tree.proofs.laws.key_paths_are_one.Goals as goal

pub returns : goal.returns
returns c = same_paths
