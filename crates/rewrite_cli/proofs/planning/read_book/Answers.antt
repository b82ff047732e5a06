use Rattle.std.proofs.Common.{ap, sym, ◌∙◌}
use Rattle.std.specs.Option.{option_map}
use Rattle.recipe_yaml.specs.Books.{recipes_in}
use Rattle.rewrite_cli.proofs.PlanSteps.{bad_book}
use Rattle.rewrite_cli.proofs.planning.read_book.Goals as goal

pub returns-clause-fault : goal.returns-clause-fault
returns-clause-fault g c = λ read are.
    bad_book read (option_map (λ v. v.items) c.args.found) c.in-Some.bytes.items c.in-Err.fault c.stop_of.result (sym (ap (option_map (λ v. v.items)) c.in-Some.is))
    (λ n. ap (recipes_in read) (sym c.deref.ensures.value) ∙ c.in-Err.ensures.fault read are n) c.stop_of.ensures.told c.stop_of.ensures.memory
