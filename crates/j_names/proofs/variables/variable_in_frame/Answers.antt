use Rattle.std.specs.Option.{option_copied}
use Rattle.j_names.specs.Names.{declared_local, inherited_field}
use Rattle.j_names.proofs.Found.{rule_before, rule_behind}
use Rattle.j_names.proofs.variables.variable_in_frame.Goals as goal

pub returns-in-Some : goal.returns-in-Some
returns-in-Some g c =
    let n = c.args.n.now in
    rw c.in-LocalBody.is (rule_before (g.C.Classes.world c.args.c.now) (declared_local c.in-LocalBody.fields n)
    (inherited_field (option_copied c.args.top) n c.in-LocalBody.supertype) c.args.asks.now c.args.asks.now
    c.in-Some.s (rw (c.in-Some.is, c.as_slice.ensures) at c.in_ok-s-in-LocalBody.ensures))

pub returns-in_ok-found-in-LocalBody : goal.returns-in_ok-found-in-LocalBody
returns-in_ok-found-in-LocalBody g c =
    let n = c.args.n.now in
    rw c.in-LocalBody.is (rule_behind (g.C.Classes.world c.args.c.now) (declared_local c.in-LocalBody.fields n)
    (inherited_field (option_copied c.args.top) n c.in-LocalBody.supertype) c.args.asks.now
    c.inherited_field.new.asks
    c.in_ok-found-in-LocalBody.found (rw (c.in_default.is, c.as_slice.ensures) at c.in_ok-s-in-LocalBody.ensures)
    c.in_ok-found-in-LocalBody.ensures)
