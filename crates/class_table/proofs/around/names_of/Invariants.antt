use Rattle.std.proofs.Common.{◌≡◌, map, take}
use Rattle.class_table.proofs.around.names_of.Given as goal

abbrev pub invariant-loop-param : goal.invariant-loop-param
invariant-loop-param l = l.out.items ≡ map (λ p. p.name) (take l.param-index l.params)
