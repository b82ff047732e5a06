use Rattle.expression_names.specs.Calls.{method_behind, result_of, call_behind}
use Rattle.expression_names.proofs.Looked.{looked}
use Rattle.expression_names.proofs.calls.call_behind.Goals as goal

pub returns : goal.returns
unfolding call_behind
returns g c = record {
  judged =
      looked (method_behind c.args.cx.now c.args.before.now c.args.name.now c.args.args.now) (result_of c.args.leaf) (g.C.Classes.world c.args.c.now) c.args.log.now c.note_result.new.log
      c.method_behind.new.asks c.in_ok-method.method c.in_ok-ty.ty c.in_ok-method.ensures (c.in_ok-ty.ensures (g.C.Classes.world c.args.c.now));
}
