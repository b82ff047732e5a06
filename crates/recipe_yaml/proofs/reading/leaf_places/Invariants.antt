use Rattle.std.proofs.Common.{◌≡◌, map, take}
use Rattle.rw_base.specs.Places.{place_at}
use Rattle.recipe_yaml.proofs.reading.leaf_places.Given as goal

abbrev pub invariant-loop-l : goal.invariant-loop-l
invariant-loop-l l = record {
  places : l.places.items ≡ map (λ x. place_at l.bytes x.from) (take l.l l.tree.leaves);
  last : l.last ≡ place_at l.bytes l.last.byte;
}
