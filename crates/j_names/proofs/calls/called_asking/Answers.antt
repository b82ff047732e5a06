use Rattle.std.proofs.Common.{[]}
use Rattle.dialogue.specs.ToldLaws.{told_map}
use Rattle.j_names.specs.Calls.{call_meant, called}
use Rattle.j_names.specs.Names.{or_else}
use Rattle.j_names.specs.declared.called.Called.TheVariants.{Methods}
use Rattle.j_names.proofs.calls.called_asking.Goals as goal

pub returns : goal.returns
unfolding called
returns g c = rw c.or_none.ensures record {
  told =
      told_map (call_meant c.args.cx.now c.args.frames.now c.args.name.now) (or_else (Methods []))
      (g.C.Classes.world c.args.c.now) c.args.asks.now c.call_meant.new.asks c.in_ok-found.found
      c.in_ok-found.ensures;
}
