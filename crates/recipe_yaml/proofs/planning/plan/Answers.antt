use Rattle.std.proofs.Common.{rules, ◌≡◌, ◌<◌, length, Some, None, refl, sym, ◌∙◌}
use Rattle.recipe_yaml.specs.Leading.{place_from}
use Rattle.recipe_yaml.proofs.Planned.{leaf_refused, recipe_planned, recipe_refused}
use Rattle.recipe_yaml.proofs.planning.plan.Goals as goal

pub returns-in_err-plan-clause-fault : goal.returns-in_err-plan-clause-fault
returns-in_err-plan-clause-fault c paths are =
    let none : None ≡ place_from 0 c.args.name.now c.as_slice-recipes.result.now = cc (c.in_default.is, c.place_of.ensures.place) in
    let f = leaf_refused paths c.args.book.now c.args.name.now c.as_slice-recipes.result.now c.as_slice-recipes.ensures c.in_err-plan.field-0.0 none (c.in_err-plan.ensures paths are) in
    search (rules, f)

pub returns-in_err-walk_recipe-clause-fault : goal.returns-in_err-walk_recipe-clause-fault
returns-in_err-walk_recipe-clause-fault c paths are =
    let some : Some c.in-Some.number ≡ place_from 0 c.args.name.now c.as_slice-recipes.result.now = c.in-Some.ensures.place in
    let lt : c.in-Some.number < length c.as_slice-recipes.result.now = c.in-Some.ensures.there in
    let f = recipe_refused paths c.args.book.now c.args.name.now c.as_slice-recipes.result.now c.as_slice-recipes.ensures c.in-Some.number c.index-recipes-number.result c.nothing-walked.result c.walk_recipe.new.walked some lt c.index-recipes-number.is c.nothing-walked.ensures
    c.in_err-walk_recipe.field-0.0 (c.in_err-walk_recipe.ensures.gone paths are) in
    search (rules, f)

pub returns-clause-plan : goal.returns-clause-plan
returns-clause-plan c paths are =
    let some : Some c.in-Some.number ≡ place_from 0 c.args.name.now c.as_slice-recipes.result.now = c.in-Some.ensures.place in
    let lt : c.in-Some.number < length c.as_slice-recipes.result.now = c.in-Some.ensures.there in
    recipe_planned paths c.args.book.now c.args.name.now c.as_slice-recipes.result.now c.as_slice-recipes.ensures c.in-Some.number c.index-recipes-number.result c.nothing-walked.result c.walk_recipe.new.walked some lt c.index-recipes-number.is c.nothing-walked.ensures
    tt c.plan_by.result (c.in_ok-walk_recipe.ensures.gone paths are) c.plan_by.ensures
