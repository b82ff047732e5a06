use Rattle.std.proofs.Common.{subst}
use Rattle.dialogue.specs.Told.{Told}
use Rattle.declared_types.specs.Signatures.{method_in}
use Rattle.declared_types.proofs.members.method_of.Goals as goal

pub returns : goal.returns
returns g c =
    subst (λ s. Told (method_in c.args.body.now s c.args.m.now) (g.C.Classes.world c.args.c.now) c.args.asks.now
    c.method_in.new.asks c.in_ok-method.method) c.in_ok-own.ensures c.in_ok-method.ensures
