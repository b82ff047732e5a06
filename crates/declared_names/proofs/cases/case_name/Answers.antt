use Rattle.declared_names.specs.Cases.{label_meant, label_noted, case_name}
use Rattle.declared_names.proofs.Looked.{looked}
use Rattle.declared_names.proofs.cases.case_name.Goals as goal

pub returns : goal.returns
unfolding case_name
returns g c =
    let w = g.C.Classes.world c.args.c.now in
    record {
      judged =
          looked (label_meant c.args.selector.now c.args.name.now) (label_noted c.args.leaf) w c.args.log.now
          c.label_noted.new.log c.label_meant.new.asks c.in_ok-symbol.symbol c.in_ok-ty.ty c.in_ok-symbol.ensures
          (c.in_ok-ty.ensures w);
    }
