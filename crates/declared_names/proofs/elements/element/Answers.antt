use Rattle.std.specs.Option.{option_copied}
use Rattle.declared_names.specs.Declarations.{noted}
use Rattle.declared_names.specs.Elements.{element_meant, element}
use Rattle.declared_names.proofs.Looked.{looked}
use Rattle.declared_names.proofs.elements.element.Goals as goal

pub returns : goal.returns
unfolding element
returns g c =
    let w = g.C.Classes.world c.args.c.now in
    record {
      judged =
          looked (element_meant c.args.cx.now (option_copied c.args.annotation) c.args.name.now) (noted c.args.leaf) w
          c.args.log.now c.noted.new.log c.element_meant.new.asks c.in_ok-symbol.symbol _ c.in_ok-symbol.ensures
          (c.in_ok-noted.ensures w);
    }
