use Rattle.dialogue.specs.ToldLaws.{told_map}
use Rattle.j_overload.specs.Rules.{choice_of}
use Rattle.expression_names.specs.Calls.{method_at}
use Rattle.expression_names.proofs.choice.chosen_of.Goals as goal

pub returns : goal.returns
returns g c =
    let ms = c.args.methods.now in
    rw c.in_ok-method.ensures
    (told_map (choice_of ms c.args.args.now) (method_at ms) (g.C.Classes.world c.args.c.now) c.args.asks.now
    c.choose_asking.new.asks c.in_ok-choice.choice c.in_ok-choice.ensures)
