use Rattle.std.proofs.Common.{[]}
use Rattle.dialogue.specs.ToldLaws.{told_map}
use Rattle.jtypes.specs.declared.symbol.Symbol.TheVariants.{Method}
use Rattle.j_overload.specs.Rules.{choice_of}
use Rattle.declared_names.specs.Declarations.{or_unknown}
use Rattle.declared_names.specs.Elements.{method_at}
use Rattle.declared_names.proofs.elements.chosen_element.Goals as goal

pub returns : goal.returns
returns g c =
    let ms = c.args.methods.now in
    rw c.in_ok-element.ensures
    (told_map (choice_of ms []) (λ choice. or_unknown Method (method_at ms choice)) (g.C.Classes.world c.args.c.now)
    c.args.asks.now c.choose_asking.new.asks c.in_ok-choice.choice c.in_ok-choice.ensures)
