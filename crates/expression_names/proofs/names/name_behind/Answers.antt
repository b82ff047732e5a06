use Rattle.expression_names.specs.Primaries.{named, meaning_behind, name_behind}
use Rattle.expression_names.proofs.Looked.{looked}
use Rattle.expression_names.proofs.names.name_behind.Goals as goal

pub returns : goal.returns
unfolding name_behind
returns g c = record {
  judged =
      looked (meaning_behind c.args.cx.now c.args.before.now c.args.name.now) (named c.args.leaf) (g.C.Classes.world c.args.c.now) c.args.log.now c.note_meaning.new.log
      c.meaning_behind.new.asks c.in_ok-s.s c.in_ok-denoted.denoted c.in_ok-s.ensures (c.in_ok-denoted.ensures (g.C.Classes.world c.args.c.now));
}
