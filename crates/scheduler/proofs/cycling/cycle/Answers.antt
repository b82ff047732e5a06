use Rattle.std.proofs.Common.{Ok}
use Rattle.scheduler.proofs.Onward.{values_are, cycle_goes}
use Rattle.scheduler.proofs.cycling.cycle.Goals as goal

pub returns : goal.returns
returns g c read are =
    let f = c.args.kept.now in
    let plan = c.args.plan.now in
    let values = c.in_ok-values.values.items in
    let one = values_are c.deref.result.now values f c.as_slice.result.now plan.leaves c.deref.ensures.value c.in_ok-values.ensures.values c.as_slice.ensures in
    let two = values_are c.deref-2.result.now values f c.as_slice.result.now plan.leaves c.deref-2.ensures.value c.in_ok-values.ensures.values c.as_slice.ensures in
    cycle_goes read plan f c.each_leaf.new.kept c.each_leaf-2.new.kept c.args.events.now c.each_leaf.new.events c.each_leaf-2.new.events tt (Ok tt)
    (c.in_ok-each_leaf.ensures read are f one) (c.in_ok-each_leaf-2.ensures read are f two)
