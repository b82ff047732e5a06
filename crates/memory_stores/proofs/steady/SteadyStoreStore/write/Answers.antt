use Rattle.std.proofs.Common.{subst, sym, ap, ◌∙◌, refl}
use Rattle.std.specs.FinMap as map
use Rattle.rw_host.specs.Files.{SameElsewhere}
use Rattle.rw_host.specs.FileLaws.{same_elsewhere-insert}
use Rattle.memory_stores.specs.States.{now_of, state_of_write}
use Rattle.memory_stores.proofs.Now.{now_put}
use Rattle.memory_stores.proofs.steady.SteadyStoreStore.write.Goals as goal

pub returns-clause-written : goal.returns-clause-written
returns-clause-written c told =
    let path = c.args.path in
    let bytes = c.args.bytes.items in
    ap now_of c.put.ensures.states ∙ now_put _ path (state_of_write bytes 0) bytes refl ∙ ap (λ known. map.insert known.files path bytes) c.self.view_is

pub returns-clause-elsewhere : goal.returns-clause-elsewhere
returns-clause-elsewhere c told =
    let path = c.args.path in
    subst (SameElsewhere path c.args.self.now.files) (sym (returns-clause-written c told)) (same_elsewhere-insert path c.args.self.now.files c.args.bytes.items)
