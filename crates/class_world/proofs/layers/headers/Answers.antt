use Rattle.std.proofs.Common.{◌∙◌, ap, map}
use Rattle.class_world.specs.Worlds.{headers_in}
use Rattle.class_world.proofs.layers.headers.Goals as goal

pub returns : goal.returns
returns c =
    c.in_ok-headers.ensures ∙ ap (λ w. headers_in w (map (λ d. d.now) c.args.types.now)) c.in_ok-written.ensures
