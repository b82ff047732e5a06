use Rattle.std.specs.Option.{option_map}
use Rattle.rewrite_cli.specs.Journals.{laid}
use Rattle.rewrite_cli.proofs.PlanSteps.{bad_plan}
use Rattle.rewrite_cli.proofs.planning.plan_of.Goals as goal

pub returns-clause-fault : goal.returns-clause-fault
returns-clause-fault g c = λ told meanings are.
    bad_plan meanings (laid c.args.entries.now (g.S.Store.files c.args.store.now)) c.args.name.now (option_map (λ v. v.items) c.in_ok-found.found) (c.in_ok-found.ensures.bytes told)
    c.in_ok-book.book c.in-Err.fault c.stop_of.result (c.in_ok-book.ensures.book meanings.read are.read) (c.in-Err.ensures.fault meanings.key_paths are.key_paths)
    c.stop_of.ensures.told c.stop_of.ensures.memory
