use Rattle.std.proofs.Common.{rules, ◌≡◌, None, refl, sym, ◌∙◌}
use Rattle.recipe_yaml.specs.Walks.{leaf_fault}
use Rattle.recipe_yaml.proofs.Gone.{leaf_wrong, leaf_pushed}
use Rattle.recipe_yaml.proofs.walk.leaf_entry.Goals as goal

pub returns-in_err-recipe-clause-gone : goal.returns-in_err-recipe-clause-gone
returns-in_err-recipe-clause-gone c paths are =
    let gone = leaf_wrong paths c.args.is_condition c.args.above.now c.args.listed.now c.args.walked.now c.in_err-recipe.field-0.0 c.args.walked.now (c.in_err-recipe.ensures paths are) in
    search (rules, gone)

pub returns-clause-gone : goal.returns-clause-gone
returns-clause-gone c paths are =
    let none : None ≡ leaf_fault c.args.is_condition c.args.listed.now c.args.walked.now.met = cc (c.in_default.is, c.leaf_fault.ensures.fault) in
    leaf_pushed paths c.args.is_condition c.args.above.now c.args.listed.now c.args.walked.now c.in_ok-recipe.recipe c.in_ok-from_slice.field-0 c.in_ok-from_slice-2.field-0 c.push.new.self
    (c.in_ok-recipe.ensures paths are) none c.in_ok-push.ensures.ok (c.in_ok-from_slice.ensures ∙ c.as_slice.ensures) c.in_ok-from_slice-2.ensures
