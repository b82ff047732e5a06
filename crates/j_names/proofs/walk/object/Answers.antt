use Rattle.jtypes.specs.Subtype.{object_name}
use Rattle.j_names.proofs.walk.object.Goals as goal

pub returns : goal.returns
unfolding object_name
returns c = c.in_ok-name.ensures
