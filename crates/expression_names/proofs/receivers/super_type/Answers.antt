use Rattle.expression_names.specs.Bodies.{class_type, superclass, super_type}
use Rattle.judging.specs.Judging.{give}
use Rattle.judging.specs.JudgingLaws.{judged_give}
use Rattle.expression_names.proofs.Looked.{after, looked}
use Rattle.expression_names.proofs.receivers.super_type.Goals as goal

pub returns : goal.returns
unfolding super_type
returns g c =
    let w = g.C.Classes.world c.args.c.now in
    let mid = after c.args.log.now c.superclass.new.asks in
    rw c.class_type.ensures record {
      judged =
          looked (superclass c.args.whose.now) (λ t. give (class_type t)) w c.args.log.now mid c.superclass.new.asks c.in_ok-class.class
          (class_type c.in_ok-class.class) c.in_ok-class.ensures (judged_give w mid (class_type c.in_ok-class.class));
    }
