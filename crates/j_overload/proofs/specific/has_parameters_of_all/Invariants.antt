use Rattle.std.proofs.Common.{◌≡◌, drop}
use Rattle.std.specs.List.{list_all}
use Rattle.j_overload.specs.Picked.{candidates_at}
use Rattle.j_overload.specs.Rules.{types_eq}
use Rattle.j_overload.proofs.specific.has_parameters_of_all.Given as goal

abbrev pub invariant-loop-place : goal.invariant-loop-place
invariant-loop-place l = list_all (λ d. types_eq l.m.params d.1.params) (candidates_at l.candidates l.places) ≡ list_all (λ d. types_eq l.m.params d.1.params) (candidates_at l.candidates (drop l.place-index l.places))
