use Rattle.std.proofs.Common.{subst, sym, ap, ◌∙◌}
use Rattle.memory_stores.specs.Images.{IsImage}
use Rattle.memory_stores.specs.Memory.{now}
use Rattle.memory_stores.specs.Picked.{picked}
use Rattle.memory_stores.proofs.Picks.{picked_is_image}
use Rattle.memory_stores.proofs.memory.MemoryStore.crash.Goals as goal

pub returns-clause-image : goal.returns-clause-image
returns-clause-image c =
    let s = c.args.self.now in
    let files = c.of.ensures.files ∙ (c.in_ok-table.ensures ∙ ap (λ s. picked c.args.pick s) c.self.view_is) in
    subst (IsImage (now s)) (sym files) (picked_is_image c.args.pick s)
