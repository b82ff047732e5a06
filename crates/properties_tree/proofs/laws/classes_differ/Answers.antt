use Rattle.std.proofs.Common.{refl}
use Rattle.std.specs.List.{IsDistinct}
use Rattle.properties_tree.proofs.laws.classes_differ.Goals as goal

pub returns-clause-leaves : goal.returns-clause-leaves
unfolding IsDistinct
returns-clause-leaves c = ((refl, (refl, (refl, (refl, tt)))), ((refl, (refl, (refl, tt))), ((refl, (refl, tt)), ((refl, tt), (tt, tt)))))

pub returns-clause-nodes : goal.returns-clause-nodes
unfolding IsDistinct
returns-clause-nodes c = ((refl, tt), (tt, tt))
