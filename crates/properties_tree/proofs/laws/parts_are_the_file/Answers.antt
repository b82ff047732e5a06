use Rattle.properties_tree.proofs.Whole.{whole-properties_of}
use Rattle.properties_tree.proofs.laws.parts_are_the_file.Goals as goal

pub returns : goal.returns
returns c = whole-properties_of
