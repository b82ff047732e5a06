use Rattle.std.proofs.Common.{◌∙◌, [], ap}
use Rattle.jtypes.specs.World.{world_of}
use Rattle.class_world.specs.Worlds.{headers_as_written}
use Rattle.class_world.proofs.layers.headers_as_written.Goals as goal

pub returns : goal.returns
unfolding headers_as_written
returns c = c.in_ok-world.ensures ∙ ap (λ hs. world_of hs [] []) c.in_ok-headers.ensures
