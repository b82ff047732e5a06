use Rattle.dialogue.specs.ToldLaws.{told_bind}
use Rattle.j_names.specs.Calls.{candidates}
use Rattle.j_names.specs.Members.{methods_of}
use Rattle.j_names.specs.Names.{top_around}
use Rattle.declared_names.specs.Elements.{chosen_element}
use Rattle.declared_names.proofs.elements.element_of.Goals as goal

pub returns : goal.returns
returns g c =
    told_bind (methods_of (top_around c.args.cx.now) c.args.name.now c.args.annotation.now)
    (λ ms. chosen_element (candidates ms)) (g.C.Classes.world c.args.c.now) c.args.asks.now
    c.methods_of_asking.new.asks c.chosen_element.new.asks c.in_ok-methods.methods c.in_ok-element.element
    c.in_ok-methods.ensures.told
    (rw (c.as_slice-2.ensures, c.in_ok-candidates.ensures.value, c.as_slice.ensures) at c.in_ok-element.ensures)
