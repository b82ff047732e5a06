use Rattle.std.proofs.Common.{None, ◌-◌, arith}
use Rattle.std.specs.Option.{option_copied}
use Rattle.j_names.specs.Names.{type_in_class}
use Rattle.j_names.proofs.Visits.{suc_of}
use Rattle.j_names.proofs.Outward.{outward_more, outward_end}
use Rattle.j_names.proofs.types.type_in_classes.Goals as goal

pub returns-in-Some : goal.returns-in-Some
returns-in-Some g c =
    outward_end c.args.classes.now (c.loop-i.i - 1) c.index-classes-i.result
    (omega (arith, c.loop-i.auto.i, c.loop-i-test.true)) c.index-classes-i.is
    (type_in_class (option_copied c.args.top) c.args.n.now) (g.C.Classes.world c.args.c.now) c.loop-i.i
    (suc_of c.loop-i.i c.loop-i-test.true)
    c.args.asks.now c.loop-i.asks c.type_in_class.new.asks c.loop-i.invariant c.in-Some.s
    (rw c.in-Some.is at c.in_ok-s.ensures)

pub loop-i-preserved : goal.loop-i-preserved
loop-i-preserved g c =
    outward_more c.args.classes.now (c.loop-i.i - 1) c.index-classes-i.result
    (omega (arith, c.loop-i.auto.i, c.loop-i-test.true)) c.index-classes-i.is
    (type_in_class (option_copied c.args.top) c.args.n.now) (g.C.Classes.world c.args.c.now) c.loop-i.i
    (suc_of c.loop-i.i c.loop-i-test.true)
    c.args.asks.now c.loop-i.asks c.type_in_class.new.asks c.loop-i.invariant None
    (rw c.in_default.is at c.in_ok-s.ensures)
