use Rattle.properties_tree.proofs.Keyed.{place_found}
use Rattle.properties_tree.proofs.keys.key_place.Goals as goal

pub returns-clause-place : goal.returns-clause-place
returns-clause-place c =
    place_found c.args.text.now c.args.start c.requires c.line_size-rest.result c.ending_length-ending.result
    c.line_size-rest.ensures.value c.line_size-rest.ensures.inside c.ending_length-ending.ensures.value c.ending_length-ending.ensures.inside
