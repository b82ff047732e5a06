use Rattle.std.proofs.Common.{subst, sym, ap, ◌∙◌}
use Rattle.std.specs.FinMap as map
use Rattle.rw_host.specs.Files.{SameElsewhere}
use Rattle.rw_host.specs.FileLaws.{same_elsewhere-remove}
use Rattle.memory_stores.specs.States.{now_of}
use Rattle.memory_stores.proofs.Now.{now_taken}
use Rattle.memory_stores.proofs.steady.SteadyStoreStore.remove.Goals as goal

pub returns-clause-removed : goal.returns-clause-removed
returns-clause-removed c told =
    let path = c.args.path.now in
    ap now_of c.take.ensures.states ∙ now_taken _ path ∙ ap (λ known. map.remove known.files path) c.self.view_is

pub returns-clause-elsewhere : goal.returns-clause-elsewhere
returns-clause-elsewhere c told =
    let path = c.args.path.now in
    subst (SameElsewhere path c.args.self.now.files) (sym (returns-clause-removed c told)) (same_elsewhere-remove path c.args.self.now.files)
