use Rattle.std.proofs.Common.{[], arith, take, take_all}
use Rattle.std.specs.Option.{option_copied}
use Rattle.dialogue.specs.ToldLaws.{in_turn_told}
use Rattle.j_names.specs.Calls.{and_static}
use Rattle.j_names.proofs.Onward.{one_more}
use Rattle.j_names.proofs.calls.static_methods.Goals as goal

pub loop-owner-preserved : goal.loop-owner-preserved
loop-owner-preserved g c =
    let owners = c.args.owners.now in
    let i = c.loop-owner.owner-index in
    rw (one_more owners i c.owner-item.result c.loop-owner-test.true c.owner-item.is)
    (in_turn_told (g.C.Classes.world c.args.c.now) (take i owners) c.owner-item.result c.args.asks.now
    c.loop-owner.asks c.and_static.new.asks (and_static (option_copied c.args.top) c.args.n.now) []
    c.loop-owner.found c.and_static.new.found c.loop-owner.invariant c.in_ok-and_static.ensures)

pub returns : goal.returns
returns g c =
    rw (take_all c.loop-owner.owner-index c.args.owners.now (omega (arith, c.loop-owner-test.false)))
    at c.loop-owner.invariant
