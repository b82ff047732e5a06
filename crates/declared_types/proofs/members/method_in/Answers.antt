use Rattle.dialogue.specs.Dialogue.{done, bind, each}
use Rattle.dialogue.specs.ToldLaws.{told_bind, told_map}
use Rattle.declared_types.specs.Signatures.{param_written, plain_written, method_with}
use Rattle.declared_types.proofs.members.method_in.Goals as goal

pub returns : goal.returns
returns g c =
    let b = c.args.body.now in
    let own = c.args.own.now in
    let m = c.args.m.now in
    let w = g.C.Classes.world c.args.c.now in
    let mid = c.params_of.new.asks in
    let params = c.in_ok-params.params in
    rw c.in_ok-method.ensures (told_bind (each (param_written b own) m.params)
    (λ ps. bind (plain_written b.name own m.result) (λ t. done (method_with b.name m ps t))) w c.args.asks.now mid
    c.plain_written.new.asks params (method_with b.name m params c.in_ok-gives.gives)
    (rw c.as_slice.ensures at c.in_ok-params.ensures)
    (told_map (plain_written b.name own m.result) (method_with b.name m params) w mid c.plain_written.new.asks
    c.in_ok-gives.gives c.in_ok-gives.ensures))
