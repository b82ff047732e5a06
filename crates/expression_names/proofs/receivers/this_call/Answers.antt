use Rattle.expression_names.specs.Bodies.{this_call}
use Rattle.expression_names.proofs.receivers.this_call.Goals as goal

pub returns : goal.returns
unfolding this_call
returns g c = record { judged = rw c.own_class.ensures at c.in_ok-constructing.ensures.judged }
