use Rattle.conf_recipes.proofs.AtTheEnd.{added_stands_at_the_end}
use Rattle.conf_recipes.proofs.recipe_laws.added_entries_stand_at_the_end.Goals as goal

pub returns : goal.returns
returns c = added_stands_at_the_end c.parts_are_the_file.ensures c.files_have_trees.ensures.tree c.files_have_trees.ensures.leaves
