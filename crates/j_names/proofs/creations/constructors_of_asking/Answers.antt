use Rattle.std.proofs.Common.{[], Some, None, filter}
use Rattle.dialogue.specs.Dialogue.{done}
use Rattle.dialogue.specs.ToldLaws.{told_done, told_value}
use Rattle.j_names.specs.Calls.{constructor_name, constructors_of, constructors_there}
use Rattle.j_names.specs.Members.{counts}
use Rattle.j_names.specs.Names.{top_around}
use Rattle.j_names.proofs.Asked.{class_asked, methods_asked}
use Rattle.j_names.proofs.creations.constructors_of_asking.Goals as goal

pub returns-in_default : goal.returns-in_default
unfolding constructors_of
returns-in_default g c =
    let top = top_around c.args.cx.now in
    let w = g.C.Classes.world c.args.c.now in
    rw c.new.ensures record {
      told =
          class_asked w c.args.asks.now c.ask_class.new.asks c.ask_class.new.asks [] c.args.class.now
          (constructors_there top c.args.class.now) None c.in_ok-header.ensures.asks
          (rw c.in_default.is at c.in_ok-header.ensures.value) (told_done w c.ask_class.new.asks []);
    }

pub returns : goal.returns
unfolding constructors_of
returns g c =
    let top = top_around c.args.cx.now in
    let w = g.C.Classes.world c.args.c.now in
    let header = c.in-Some.header.now in
    record {
      told =
          class_asked w c.args.asks.now c.ask_class.new.asks c.ask_methods.new.asks c.in_ok-all.all c.args.class.now
          (constructors_there top c.args.class.now) (Some header) c.in_ok-header.ensures.asks
          (rw c.in-Some.is at c.in_ok-header.ensures.value)
          (methods_asked w c.ask_class.new.asks c.ask_methods.new.asks c.ask_methods.new.asks c.in_ok-all.all
          c.args.class.now constructor_name (λ ms. done (filter (λ m. counts top header m.is_private) ms))
          c.in_ok-methods.methods.now
          (rw c.in_ok-name.ensures at c.in_ok-methods.ensures.asks)
          (rw c.in_ok-name.ensures at c.in_ok-methods.ensures.value)
          (told_value w c.ask_methods.new.asks c.in_ok-all.all
          (filter (λ m. counts top header m.is_private) c.in_ok-methods.methods.now)
          (rw c.top_around-top.ensures at c.in_ok-all.ensures)));
    }
