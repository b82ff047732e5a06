use Rattle.std.proofs.Common.{◌∙◌, sym, ap, Some, None, if◌then◌else◌}
use Rattle.std.specs.Option.{option_copied}
use Rattle.j_names.specs.Walk.{is_in}
use Rattle.j_names.specs.Calls.{inherited_call}
use Rattle.j_names.specs.declared.called.Called.TheVariants.{Unknown}
use Rattle.j_names.proofs.Found.{rule_before, rule_behind}
use Rattle.j_names.proofs.calls.call_in_frame.Goals as goal

pub returns-then-is_among : goal.returns-then-is_among
returns-then-is_among g c =
    let n = c.args.n.now in
    rw c.in-LocalBody.is (rule_before (g.C.Classes.world c.args.c.now)
    (if is_in c.in-LocalBody.methods n then Some Unknown else None)
    (inherited_call (option_copied c.args.top) n c.in-LocalBody.supertype) c.args.asks.now c.args.asks.now Unknown
    (ap (λ b. if b then Some Unknown else None)
    (sym c.if-is_among.true ∙ (rw c.as_slice.ensures at c.is_among.ensures))))

pub returns-in_ok-found-in-LocalBody : goal.returns-in_ok-found-in-LocalBody
returns-in_ok-found-in-LocalBody g c =
    let n = c.args.n.now in
    rw c.in-LocalBody.is (rule_behind (g.C.Classes.world c.args.c.now)
    (if is_in c.in-LocalBody.methods n then Some Unknown else None)
    (inherited_call (option_copied c.args.top) n c.in-LocalBody.supertype) c.args.asks.now c.inherited_call.new.asks
    c.in_ok-found-in-LocalBody.found
    (ap (λ b. if b then Some Unknown else None)
    (sym c.if-is_among.false ∙ (rw c.as_slice.ensures at c.is_among.ensures)))
    c.in_ok-found-in-LocalBody.ensures)
