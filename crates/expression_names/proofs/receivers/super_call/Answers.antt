use Rattle.expression_names.specs.Bodies.{superclass, super_call}
use Rattle.expression_names.specs.Calls.{constructing}
use Rattle.expression_names.proofs.Looked.{looked}
use Rattle.expression_names.proofs.receivers.super_call.Goals as goal

pub returns : goal.returns
unfolding super_call
returns g c = record {
  judged =
      looked (superclass c.args.whose.now) (λ t. constructing c.args.cx.now t c.args.leaf c.args.args.now) (g.C.Classes.world c.args.c.now) c.args.log.now c.constructing.new.log
      c.superclass.new.asks c.in_ok-class.class (record {}) c.in_ok-class.ensures (rw c.as_ref.ensures.value at c.in_ok-constructing.ensures.judged);
}
