use Rattle.dialogue.specs.ToldLaws.{told_map}
use Rattle.j_names.specs.Dots.{behind_package}
use Rattle.j_names.specs.Members.{joined, type_at}
use Rattle.j_names.specs.Names.{top_around, or_else}
use Rattle.jtypes.specs.declared.symbol.Symbol.TheVariants.{Package}
use Rattle.j_names.proofs.dots.behind_package_asking.Goals as goal

pub returns : goal.returns
unfolding behind_package
returns g c =
    let at = joined c.args.scope.now c.args.name.now in
    rw (c.or_package.ensures, c.in_ok-qualified.ensures) record {
      told =
          told_map (type_at (top_around c.args.cx.now) at) (or_else (Package at)) (g.C.Classes.world c.args.c.now)
          c.args.asks.now c.type_at.new.asks c.in_ok-found.found
          (rw (c.top_around-top.ensures, c.in_ok-at.ensures, c.in_ok-qualified.ensures) at c.in_ok-found.ensures);
    }
