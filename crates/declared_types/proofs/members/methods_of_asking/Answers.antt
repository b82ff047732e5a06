use Rattle.std.proofs.Common.{subst, ◌++◌}
use Rattle.dialogue.specs.Dialogue.{each}
use Rattle.dialogue.specs.Told.{Told}
use Rattle.dialogue.specs.ToldLaws.{told_map}
use Rattle.declared_types.specs.Erasure.{body_of}
use Rattle.declared_types.specs.Signatures.{method_of, methods_of, enum_methods, default_constructor}
use Rattle.declared_types.proofs.members.methods_of_asking.Goals as goal

pub returns : goal.returns
unfolding methods_of
returns g c =
    let d = c.args.d.now in
    let w = g.C.Classes.world c.args.c.now in
    let old = c.args.asks.now in
    let new = c.declared_methods.new.asks in
    let declared = c.in_ok-methods.methods.items in
    let all = each (method_of (body_of d)) d.methods in
    rw c.in_ok-put_default_constructor.ensures (rw c.in_ok-put_enum_methods.ensures record {
      told =
          told_map all (λ ms. ms ++ enum_methods d d.kind ++ default_constructor d) w old new declared
          (subst (λ b. Told (each (method_of b) d.methods) w old new declared) c.in_ok-body.ensures
          (rw c.as_slice.ensures at c.in_ok-methods.ensures));
    })
