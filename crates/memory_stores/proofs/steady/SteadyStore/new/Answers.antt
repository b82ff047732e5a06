use Rattle.std.proofs.Common.{ap, ◌∙◌}
use Rattle.memory_stores.specs.States.{now_of}
use Rattle.memory_stores.proofs.Now.{now_given}
use Rattle.memory_stores.proofs.steady.SteadyStore.new.Goals as goal

pub returns : goal.returns
returns c = record { files = c.of.ensures.files ∙ ap now_of c.in_ok-new.ensures ∙ now_given c.args.files.items; unsynced = c.of.ensures.unsynced }
