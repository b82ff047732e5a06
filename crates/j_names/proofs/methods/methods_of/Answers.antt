use Rattle.j_names.specs.Members.{methods_of}
use Rattle.j_names.proofs.methods.methods_of.Goals as goal

pub returns : goal.returns
unfolding methods_of
returns g c = rw c.new-found.ensures at c.in_ok-walk.ensures
