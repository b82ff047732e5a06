use Rattle.conf_recipes.proofs.Written.{edits_write_keys}
use Rattle.conf_recipes.proofs.renaming.edits_write_keys.Goals as goal

pub returns : goal.returns
returns c = edits_write_keys c.parts_are_the_file.ensures c.files_have_trees.ensures.tree c.files_have_trees.ensures.leaves
