use Rattle.std.specs.Option.{option_copied}
use Rattle.declared_names.specs.Declarations.{field_meant, noted, declared_field}
use Rattle.declared_names.proofs.Looked.{looked}
use Rattle.declared_names.proofs.fields.declared_field.Goals as goal

pub returns : goal.returns
unfolding declared_field
returns g c =
    let w = g.C.Classes.world c.args.c.now in
    record {
      judged =
          looked (field_meant (option_copied c.args.class) c.args.name.now c.args.ty.now) (noted c.args.leaf) w
          c.args.log.now c.noted.new.log c.field_meant.new.asks c.in_ok-symbol.symbol _ c.in_ok-symbol.ensures
          (c.in_ok-noted.ensures w);
    }
