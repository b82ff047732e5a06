use Rattle.std.proofs.Common.{◌<◌, ◌≤◌, length, ap, ◌∙◌, arith}
use Rattle.rw_base.specs.declared.tree.Leaf.{Leaf}
use Rattle.rw_base.specs.Places.{place_at}
use Rattle.recipe_yaml.proofs.LeafPlaces.{places_more, places_end, place_again}
use Rattle.recipe_yaml.proofs.reading.leaf_places.Goals as goal

pub loop-l-preserved : goal.loop-l-preserved
loop-l-preserved c =
    let bytes = c.args.bytes.now in
    let leaves = c.args.tree.now.leaves in
    let lt : c.loop-l.l < length leaves = omega (arith, c.leaf_count-l-end.ensures.count) in
    record {
      places = places_more bytes leaves c.loop-l.places.items c.push.new.self.items c.loop-l.l c.place_from-last.result lt
          c.loop-l.invariant.places c.in_ok-push.ensures.items
          (c.place_from-last.ensures ∙ ap (λ (x : Leaf). place_at bytes x.from) c.leaf.ensures.leaf);
      last = place_again bytes c.place_from-last.result c.leaf.result.from c.place_from-last.ensures;
    }

pub returns : goal.returns
returns c =
    let le : length c.args.tree.now.leaves ≤ c.loop-l.l = omega (arith, c.leaf_count-l-end.ensures.count) in
    places_end c.args.bytes.now c.args.tree.now c.loop-l.places.items c.loop-l.l le c.loop-l.invariant.places
