use Rattle.std.proofs.Common.{Some, None}
use Rattle.dialogue.specs.ToldLaws.{told_done}
use Rattle.j_names.specs.Calls.{superclass_of, superclass_there}
use Rattle.j_names.proofs.Asked.{class_asked}
use Rattle.j_names.proofs.creations.superclass_of_asking.Goals as goal

pub returns-in_default : goal.returns-in_default
unfolding superclass_of
returns-in_default g c =
    let w = g.C.Classes.world c.args.c.now in
    record {
      told =
          class_asked w c.args.asks.now c.ask_class.new.asks c.ask_class.new.asks None c.args.class.now
          superclass_there
          None c.in_ok-header.ensures.asks (rw c.in_default.is at c.in_ok-header.ensures.value)
          (told_done w c.ask_class.new.asks None);
    }

pub returns : goal.returns
unfolding superclass_of
returns g c =
    let w = g.C.Classes.world c.args.c.now in
    record {
      told =
          class_asked w c.args.asks.now c.ask_class.new.asks c.first_class.new.asks c.in_ok-superclass.superclass
          c.args.class.now superclass_there (Some c.in-Some.header.now) c.in_ok-header.ensures.asks
          (rw c.in-Some.is at c.in_ok-header.ensures.value)
          (rw c.as_slice.ensures at c.in_ok-superclass.ensures);
    }
