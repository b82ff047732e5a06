use Rattle.dialogue.specs.ToldLaws.{told_map}
use Rattle.j_names.specs.Dots.{field_behind}
use Rattle.j_names.specs.Members.{field_of}
use Rattle.j_names.specs.Names.{top_around, or_else}
use Rattle.jtypes.specs.declared.symbol.Symbol.TheVariants.{Unknown}
use Rattle.j_names.proofs.dots.field_or_unknown.Goals as goal

pub returns : goal.returns
unfolding field_behind
returns g c =
    rw c.or_unknown.ensures
    (told_map (field_of (top_around c.args.cx.now) c.args.name.now c.args.class.now) (or_else Unknown)
    (g.C.Classes.world c.args.c.now) c.args.asks.now c.field_of.new.asks c.in_ok-found.found
    (rw c.top_around-top.ensures at c.in_ok-found.ensures))
