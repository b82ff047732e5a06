use Rattle.j_attrib.proofs.PrimarySteps.{labelled}
use Rattle.j_attrib.proofs.primaries.label.Goals as goal

pub returns : goal.returns
returns g c =
    labelled c.args.u.now c.args.frames.now c.args.selector.now c.args.leaf c.in_ok-name.name
    (g.C.Classes.world c.args.c.now) c.args.log.now c.case_name.new.log c.label_or_name.new.log
    c.in_ok-constant.constant c.in_ok-value.value c.in_ok-name.ensures c.in_ok-constant.ensures.judged
    c.in_ok-value.ensures
