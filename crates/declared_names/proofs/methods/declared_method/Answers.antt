use Rattle.std.specs.Option.{option_copied}
use Rattle.declared_names.specs.Declarations.{method_meant, noted, declared_method}
use Rattle.declared_names.proofs.Looked.{looked}
use Rattle.declared_names.proofs.methods.declared_method.Goals as goal

pub returns : goal.returns
unfolding declared_method
returns g c =
    let w = g.C.Classes.world c.args.c.now in
    record {
      judged =
          looked (method_meant (option_copied c.args.class) c.args.name.now c.args.params.now) (noted c.args.leaf) w
          c.args.log.now c.noted.new.log c.method_meant.new.asks c.in_ok-symbol.symbol _ c.in_ok-symbol.ensures
          (c.in_ok-noted.ensures w);
    }
