use Rattle.dialogue.specs.ToldLaws.{told_bind}
use Rattle.j_names.specs.Calls.{called}
use Rattle.expression_names.specs.Calls.{chosen_called}
use Rattle.expression_names.proofs.calls.method_called.Goals as goal

pub returns : goal.returns
returns g c =
    told_bind (called c.args.cx.now c.args.frames.now c.args.name.now) (chosen_called c.args.args.now) (g.C.Classes.world c.args.c.now) c.args.asks.now c.called_asking.new.asks
    c.chosen_called.new.asks c.in_ok-called.called c.in_ok-method.method c.in_ok-called.ensures.told c.in_ok-method.ensures
