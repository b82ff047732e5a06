use Rattle.j_names.specs.Members.{methods_inherited}
use Rattle.j_names.proofs.methods.methods_inherited.Goals as goal

pub returns : goal.returns
unfolding methods_inherited
returns g c = rw c.new-found.ensures at c.in_ok-walk.ensures
