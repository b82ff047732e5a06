use Rattle.std.proofs.Common.{None, arith, take_all}
use Rattle.std.specs.Option.{option_copied}
use Rattle.j_names.specs.Members.{field_of}
use Rattle.j_names.proofs.Onward.{onward_more, onward_end}
use Rattle.j_names.proofs.variables.field_in_owners.Goals as goal

pub returns-in-Some : goal.returns-in-Some
returns-in-Some g c =
    onward_end c.args.owners.now c.loop-owner.owner-index c.owner-item.result c.loop-owner-test.true c.owner-item.is
    (field_of (option_copied c.args.top) c.args.n.now) (g.C.Classes.world c.args.c.now) c.args.asks.now
    c.loop-owner.asks c.field_of.new.asks c.loop-owner.invariant c.in-Some.s (rw c.in-Some.is at c.in_ok-s.ensures)

pub loop-owner-preserved : goal.loop-owner-preserved
loop-owner-preserved g c =
    onward_more c.args.owners.now c.loop-owner.owner-index c.owner-item.result c.loop-owner-test.true c.owner-item.is
    (field_of (option_copied c.args.top) c.args.n.now) (g.C.Classes.world c.args.c.now) c.args.asks.now
    c.loop-owner.asks c.field_of.new.asks c.loop-owner.invariant None (rw c.in_default.is at c.in_ok-s.ensures)

pub returns : goal.returns
returns g c =
    rw (take_all c.loop-owner.owner-index c.args.owners.now (omega (arith, c.loop-owner-test.false)))
    at c.loop-owner.invariant
