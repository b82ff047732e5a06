use Rattle.expression_names.specs.Calls.{method_called, result_of, call}
use Rattle.expression_names.proofs.Looked.{looked}
use Rattle.expression_names.proofs.calls.call.Goals as goal

pub returns : goal.returns
unfolding call
returns g c = record {
  judged =
      looked (method_called c.args.cx.now c.args.frames.now c.args.name.now c.args.args.now) (result_of c.args.leaf) (g.C.Classes.world c.args.c.now) c.args.log.now c.note_result.new.log
      c.method_called.new.asks c.in_ok-method.method c.in_ok-ty.ty c.in_ok-method.ensures (c.in_ok-ty.ensures (g.C.Classes.world c.args.c.now));
}
