use Rattle.dialogue.specs.ToldLaws.{told_map}
use Rattle.j_names.specs.Names.{variable_meant, variable_named, or_else}
use Rattle.jtypes.specs.declared.symbol.Symbol.TheVariants.{Unknown}
use Rattle.j_names.proofs.variables.variable_named_asking.Goals as goal

pub returns : goal.returns
unfolding variable_named
returns g c = rw c.or_unknown.ensures record {
  told =
      told_map (variable_meant c.args.cx.now c.args.frames.now c.args.name.now) (or_else Unknown)
      (g.C.Classes.world c.args.c.now) c.args.asks.now c.variable_meant.new.asks c.in_ok-found.found
      c.in_ok-found.ensures;
}
