use Rattle.properties_tree.proofs.Counted.{files_have_trees, entries_have_four_leaves}
use Rattle.properties_tree.proofs.laws.files_have_trees.Goals as goal

pub returns-clause-tree : goal.returns-clause-tree
returns-clause-tree c = files_have_trees

pub returns-clause-leaves : goal.returns-clause-leaves
returns-clause-leaves c = entries_have_four_leaves
