use Rattle.std.specs.Option.{option_copied}
use Rattle.dialogue.specs.ToldLaws.{told_map}
use Rattle.j_names.specs.Calls.{some_of}
use Rattle.j_names.specs.Members.{methods_of}
use Rattle.j_names.proofs.calls.call_in_body.Goals as goal

pub returns : goal.returns
returns g c =
    rw c.some_of.ensures
    (told_map (methods_of (option_copied c.args.top) c.args.n.now c.args.name.now) some_of
    (g.C.Classes.world c.args.c.now)
    c.args.asks.now c.methods_of.new.asks c.in_ok-methods.methods c.in_ok-methods.ensures)
