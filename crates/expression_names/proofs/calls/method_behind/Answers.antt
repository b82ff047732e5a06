use Rattle.dialogue.specs.ToldLaws.{told_bind}
use Rattle.expression_names.specs.Calls.{methods_behind, chosen}
use Rattle.expression_names.proofs.calls.method_behind.Goals as goal

pub returns : goal.returns
returns g c =
    told_bind (methods_behind c.args.cx.now c.args.before.now c.args.name.now) (λ ms. chosen ms c.args.args.now) (g.C.Classes.world c.args.c.now) c.args.asks.now c.methods_behind.new.asks
    c.chosen.new.asks c.in_ok-methods.methods c.in_ok-method.method c.in_ok-methods.ensures (rw c.as_slice.ensures at c.in_ok-method.ensures)
