use Rattle.std.proofs.Common.{◌∙◌, [], ap}
use Rattle.jtypes.specs.World.{world_of}
use Rattle.class_world.proofs.layers.headers_with_supertypes.Goals as goal

pub returns : goal.returns
returns c = c.in_ok-world.ensures ∙ ap (λ hs. world_of hs [] []) c.in_ok-copies.ensures
