use Rattle.conf_recipes.proofs.Without.{deletes_leave_the_rest}
use Rattle.conf_recipes.proofs.recipe_laws.deletes_leave_the_rest.Goals as goal

pub returns : goal.returns
returns c = deletes_leave_the_rest c.parts_are_the_file.ensures c.files_have_trees.ensures.tree c.files_have_trees.ensures.leaves
