use Rattle.std.proofs.Common.{◌++◌, filter}
use Rattle.std.specs.Option.{option_copied}
use Rattle.dialogue.specs.ToldLaws.{told_map}
use Rattle.j_names.specs.Members.{methods_of}
use Rattle.j_names.proofs.calls.and_static.Goals as goal

pub returns : goal.returns
returns g c =
    rw (c.in_ok-put_static.ensures, c.as_slice.ensures)
    (told_map (methods_of (option_copied c.args.top) c.args.n.now c.args.owner.now)
    (λ ms. c.args.found.now ++ filter (λ m. m.is_static) ms) (g.C.Classes.world c.args.c.now)
    c.args.asks.now c.methods_of.new.asks c.in_ok-methods.methods c.in_ok-methods.ensures)
