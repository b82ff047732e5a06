use Rattle.std.proofs.Common.{◌∷◌}
use Rattle.dialogue.specs.ToldLaws.{told_map}
use Rattle.declared_types.specs.Erasure.{variable_erased}
use Rattle.declared_types.specs.Signatures.{with_dims}
use Rattle.declared_types.proofs.member_types.param_type.Goals as goal

pub returns-in_ok-ty-in-TypeVar : goal.returns-in_ok-ty-in-TypeVar
returns-in_ok-ty-in-TypeVar g c =
    rw (c.in-TypeVar.is, c.in_ok-ty-in-TypeVar.ensures) (told_map
    (variable_erased (c.args.own.now ∷ c.args.body.now.outer) c.in-TypeVar.name) (with_dims c.args.dims)
    (g.C.Classes.world c.args.c.now) c.args.asks.now c.variable_erased.new.asks c.in_ok-erased-in-TypeVar.erased
    (rw c.as_slice-outer.ensures at c.in_ok-erased-in-TypeVar.ensures))
