use Rattle.j_names.specs.Names.{meaning_of}
use Rattle.expression_names.specs.Primaries.{named, simple_name}
use Rattle.expression_names.proofs.Looked.{looked}
use Rattle.expression_names.proofs.names.simple_name.Goals as goal

pub returns : goal.returns
unfolding simple_name
returns g c = record {
  judged =
      looked (meaning_of c.args.cx.now c.args.frames.now c.args.name.now) (named c.args.leaf) (g.C.Classes.world c.args.c.now) c.args.log.now c.note_meaning.new.log
      c.meaning_of_asking.new.asks c.in_ok-s.s c.in_ok-denoted.denoted c.in_ok-s.ensures.told (c.in_ok-denoted.ensures (g.C.Classes.world c.args.c.now));
}
