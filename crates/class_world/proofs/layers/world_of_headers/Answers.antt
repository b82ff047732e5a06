use Rattle.std.proofs.Common.{◌∙◌, [], ap}
use Rattle.jtypes.specs.World.{world_of}
use Rattle.class_world.proofs.layers.world_of_headers.Goals as goal

pub returns : goal.returns
returns c =
    c.in_ok-world.ensures
    ∙ ap (λ fs. world_of c.args.headers.items fs c.new-methods.result.items) c.new-fields.ensures.items
    ∙ ap (λ ms. world_of c.args.headers.items [] ms) c.new-methods.ensures.items
