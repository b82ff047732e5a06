use Rattle.std.specs.Option.{option_copied}
use Rattle.j_names.specs.Calls.{constructor_name}
use Rattle.declared_names.specs.Declarations.{method_meant, noted, declared_constructor}
use Rattle.declared_names.proofs.Looked.{looked}
use Rattle.declared_names.proofs.methods.declared_constructor.Goals as goal

pub returns : goal.returns
unfolding declared_constructor
returns g c =
    let w = g.C.Classes.world c.args.c.now in
    record {
      judged =
          looked (method_meant (option_copied c.args.class) constructor_name c.args.params.now) (noted c.args.leaf) w
          c.args.log.now c.noted.new.log c.method_meant.new.asks c.in_ok-symbol.symbol _
          (rw c.in_ok-name.ensures at c.in_ok-symbol.ensures) (c.in_ok-noted.ensures w);
    }
