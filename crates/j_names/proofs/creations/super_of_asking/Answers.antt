use Rattle.std.proofs.Common.{◌∙◌, sym, Some, None}
use Rattle.dialogue.specs.ToldLaws.{told_done}
use Rattle.j_names.specs.Calls.{super_of, super_there}
use Rattle.j_names.proofs.Asked.{class_asked}
use Rattle.j_names.proofs.creations.super_of_asking.Goals as goal

pub returns-in_default : goal.returns-in_default
unfolding super_of
returns-in_default g c =
    let w = g.C.Classes.world c.args.c.now in
    record {
      told =
          class_asked w c.args.asks.now c.ask_class.new.asks c.ask_class.new.asks None c.args.class.now
          (super_there c.args.class.now) None c.in_ok-header.ensures.asks
          (rw c.in_default.is at c.in_ok-header.ensures.value) (told_done w c.ask_class.new.asks None);
    }

pub returns-then-is_interface : goal.returns-then-is_interface
unfolding super_of
returns-then-is_interface g c =
    let w = g.C.Classes.world c.args.c.now in
    let name = c.args.class.now in
    rw c.in_ok-copy.ensures record {
      told =
          class_asked w c.args.asks.now c.ask_class.new.asks c.ask_class.new.asks (Some name) name
          (super_there name) (Some c.in-Some.header.now) c.in_ok-header.ensures.asks
          (rw c.in-Some.is at c.in_ok-header.ensures.value)
          (rw (sym c.is_interface.ensures ∙ c.if-is_interface.true) (told_done w c.ask_class.new.asks (Some name)));
    }

pub returns : goal.returns
unfolding super_of
returns g c =
    let w = g.C.Classes.world c.args.c.now in
    record {
      told =
          class_asked w c.args.asks.now c.ask_class.new.asks c.first_class.new.asks c.in_ok-superclass.superclass
          c.args.class.now (super_there c.args.class.now) (Some c.in-Some.header.now) c.in_ok-header.ensures.asks
          (rw c.in-Some.is at c.in_ok-header.ensures.value)
          (rw (sym c.is_interface.ensures ∙ c.if-is_interface.false)
          (rw c.as_slice.ensures at c.in_ok-superclass.ensures));
    }
