use Rattle.std.proofs.Common.{◌∙◌, ap}
use Rattle.declared_types.specs.Supertypes.{header_with}
use Rattle.class_world.proofs.layers.header_in.Goals as goal

pub returns : goal.returns
returns g c = c.in_ok-header.ensures ∙ ap (λ ss. header_with ss c.args.declared.now) c.in_ok-supertypes.ensures.told.gives
