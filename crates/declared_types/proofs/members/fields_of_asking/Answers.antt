use Rattle.std.proofs.Common.{◌≡◌, ◌∙◌, ap, subst, [], take_all, length, arith}
use Rattle.dialogue.specs.Dialogue.{each}
use Rattle.dialogue.specs.Told.{Told}
use Rattle.declared_types.specs.Erasure.{scope_of, context_inside}
use Rattle.declared_types.specs.Signatures.{field_in, fields_of}
use Rattle.declared_types.proofs.Loops.{each_more}
use Rattle.declared_types.proofs.members.fields_of_asking.Goals as goal

pub loop-f-preserved : goal.loop-f-preserved
loop-f-preserved g c =
    rw c.in_ok-push.ensures.items (each_more (g.C.Classes.world c.args.c.now) c.args.d.now.fields c.loop-f.f-index
    c.f-item.result (rw c.as_slice-f-items.ensures at c.loop-f-test.true) (rw c.as_slice-f-items.ensures at c.f-item.is)
    c.args.asks.now c.loop-f.asks c.field_in.new.asks (field_in c.args.d.now.name c.in_ok-own.own)
    c.loop-f.fields.items c.in_ok-field.field c.loop-f.invariant c.in_ok-field.ensures)

pub returns : goal.returns
unfolding fields_of
returns g c =
    let d = c.args.d.now in
    let w = g.C.Classes.world c.args.c.now in
    let own = c.in_ok-own.own in
    let made : own ≡ scope_of [] (context_inside d) =
    c.in_ok-own.ensures
    ∙ ap (λ ps. scope_of ps c.in_ok-cx.cx) c.empty.ensures
    ∙ ap (scope_of []) c.in_ok-cx.ensures in
    record {
      told =
          subst (λ s. Told (each (field_in d.name s) d.fields) w c.args.asks.now c.loop-f.asks c.loop-f.fields.items)
          made (subst (λ xs. Told (each (field_in d.name own) xs) w c.args.asks.now c.loop-f.asks c.loop-f.fields.items)
          (take_all c.loop-f.f-index d.fields
          (omega (arith, c.loop-f-test.false, ap length c.as_slice-f-items.ensures))) c.loop-f.invariant);
    }
