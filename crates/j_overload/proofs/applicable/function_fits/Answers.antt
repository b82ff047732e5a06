use Rattle.std.proofs.Common.{refl, None, Some, true}
use Rattle.j_overload.proofs.FitTests.{told_class, told_unknown, told_no_function}
use Rattle.j_overload.proofs.applicable.function_fits.Goals as goal

pub returns-in-Some : goal.returns-in-Some
returns-in-Some g c =
    let w = g.C.Classes.world c.args.c.now in
    rw c.in-Class.is (told_class w c.args.asks.now c.ask_class.new.asks c.in-Class.name (Some c.in-Some.header.now) c.is_interface.result (rw c.in-Some.is at c.in_ok-header-in-Class.ensures.value) c.in_ok-header-in-Class.ensures.asks c.is_interface.ensures)

pub returns-in-None : goal.returns-in-None
returns-in-None g c =
    let w = g.C.Classes.world c.args.c.now in
    rw c.in-Class.is (told_class w c.args.asks.now c.ask_class.new.asks c.in-Class.name None true (rw c.in-None.is at c.in_ok-header-in-Class.ensures.value) c.in_ok-header-in-Class.ensures.asks refl)

pub returns-in-Unknown : goal.returns-in-Unknown
returns-in-Unknown g c = rw c.in-Unknown.is (told_unknown _ c.args.asks.now)

pub returns-in_default : goal.returns-in_default
returns-in_default g c = told_no_function _ c.args.asks.now c.args.t.now c.in_default.not-Class c.in_default.not-Unknown
