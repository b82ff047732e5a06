use Rattle.dialogue.specs.ToldLaws.{told_bind}
use Rattle.std.specs.Option.{option_copied}
use Rattle.expression_names.specs.Calls.{constructors_in, chosen}
use Rattle.expression_names.proofs.constructors.constructor_in.Goals as goal

pub returns : goal.returns
returns g c =
    told_bind (constructors_in c.args.cx.now (option_copied c.args.class)) (λ ms. chosen ms c.args.args.now) (g.C.Classes.world c.args.c.now) c.args.asks.now c.constructors_in.new.asks
    c.chosen.new.asks c.in_ok-all.all c.in_ok-constructor.constructor c.in_ok-all.ensures (rw c.as_slice.ensures at c.in_ok-constructor.ensures)
