use Rattle.std.specs.Option.{option_copied}
use Rattle.expression_names.specs.Calls.{constructor_in, noting_chosen, constructing}
use Rattle.expression_names.proofs.Looked.{looked}
use Rattle.expression_names.proofs.constructors.constructing.Goals as goal

pub returns : goal.returns
unfolding constructing
returns g c = record {
  judged =
      looked (constructor_in c.args.cx.now (option_copied c.args.class) c.args.args.now) (noting_chosen c.args.leaf) (g.C.Classes.world c.args.c.now) c.args.log.now c.note_chosen.new.log
      c.constructor_in.new.asks c.in_ok-constructor.constructor _ c.in_ok-constructor.ensures (c.in_ok-note_chosen.ensures (g.C.Classes.world c.args.c.now));
}
