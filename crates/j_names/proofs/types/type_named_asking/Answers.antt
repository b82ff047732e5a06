use Rattle.dialogue.specs.ToldLaws.{told_map}
use Rattle.j_names.specs.Names.{type_meant, type_named, or_else}
use Rattle.jtypes.specs.declared.symbol.Symbol.TheVariants.{Unknown}
use Rattle.j_names.proofs.types.type_named_asking.Goals as goal

pub returns : goal.returns
unfolding type_named
returns g c = rw c.or_unknown.ensures record {
  told =
      told_map (type_meant c.args.cx.now c.args.frames.now c.args.name.now) (or_else Unknown)
      (g.C.Classes.world c.args.c.now) c.args.asks.now c.type_meant.new.asks c.in_ok-found.found
      c.in_ok-found.ensures;
}
