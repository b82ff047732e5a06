use Rattle.dialogue.specs.ToldLaws.{told_map}
use Rattle.j_names.specs.Names.{type_meant, type_or_package, or_else}
use Rattle.jtypes.specs.declared.symbol.Symbol.TheVariants.{Package}
use Rattle.j_names.proofs.types.type_or_package_asking.Goals as goal

pub returns : goal.returns
unfolding type_or_package
returns g c =
    rw (c.or_package.ensures, c.in_ok-package.ensures) record {
      told =
          told_map (type_meant c.args.cx.now c.args.frames.now c.args.name.now) (or_else (Package c.args.name.now))
          (g.C.Classes.world c.args.c.now) c.args.asks.now c.type_meant.new.asks c.in_ok-found.found
          c.in_ok-found.ensures;
    }
