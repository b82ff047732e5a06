-- The plan of a recipe of the book.
use Rattle.std.proofs.Common.{◌≡◌, ◌≢◌, ℕ, ◌<◌, List, [], ◌∷◌, length, get_or, Option, Some, None, refl, sym, ap, subst, ◌∙◌}
use Rattle.std.specs.Prelude.{Result, Ok, Err, slice_index_or}
use Rattle.std.proofs.lemmas.List.{get_or_default}
use Rattle.recipe_yaml.specs.KeyPathTexts.{KeyPathsOf}
use Rattle.recipe_yaml.specs.Faults.{and_then, IsOutcome}
use Rattle.recipe_yaml.specs.Leading.{place_from}
use Rattle.recipe_yaml.specs.Walks.{Went, entry, recipe, no_recipe, IsGone}
use Rattle.recipe_yaml.specs.Plans.{nothing, plan_by, leaf_plan, plan_of}
use Rattle.recipe_yaml.specs.declared.book.RecipeBook.{RecipeBook}
use Rattle.recipe_yaml.specs.declared.book.Written.{Written}
use Rattle.recipe_yaml.specs.declared.fault.RecipeFault.{RecipeFault}
use Rattle.recipe_yaml.specs.declared.fault.RecipeFault.TheVariants.{NoMemory}
use Rattle.recipe_yaml.specs.declared.plans.Plan.{Plan}
use Rattle.recipe_yaml.specs.declared.walk.Walked.{Walked}
use Rattle.recipe_yaml.specs.declared.walk.TheConstants.{LEVELS}

module _ (paths : KeyPathsOf) (book : RecipeBook) (name : List ℕ) where
  abbrev by_place : Option ℕ → Result Plan RecipeFault
  by_place None = leaf_plan paths name
  by_place (Some r) = and_then (recipe (entry book.recipes paths LEVELS (r ∷ [])) [] (slice_index_or book.recipes r no_recipe) nothing) (λ w. Ok (plan_by w))

  by : plan_of paths book name ≡ by_place (place_from 0 name book.recipes)
  unfolding plan_of
  by = elim (place_from 0 name book.recipes) as (λ o. elim o [ None ↦ leaf_plan paths name | Some r ↦ and_then (recipe (entry book.recipes paths LEVELS (r ∷ [])) [] (slice_index_or book.recipes r no_recipe) nothing) (λ w. Ok (plan_by w)) ] ≡ by_place o) [ None ↦ refl | Some r ↦ refl ]

  module _ (recipes : List Written) (same : recipes ≡ book.recipes) where
    pub leaf_planned : (plan : Plan) → None ≡ place_from 0 name recipes → IsOutcome (leaf_plan paths name) (Ok plan) → plan_of paths book name ≡ Ok plan
    leaf_planned plan none is = by ∙ (ap by_place (sym (none ∙ ap (place_from 0 name) same)) ∙ is)

    pub leaf_refused : (fault : RecipeFault) → None ≡ place_from 0 name recipes → IsOutcome (leaf_plan paths name) (Err fault) → fault ≢ NoMemory → plan_of paths book name ≡ Err fault
    leaf_refused fault none is not = by ∙ (ap by_place (sym (none ∙ ap (place_from 0 name) same)) ∙ is not)

    module _ (r : ℕ) (d : Written) (w v : Walked) (some : Some r ≡ place_from 0 name recipes) (lt : r < length recipes) (is_there : d ≡ get_or recipes r d) (start : w ≡ nothing) where
      walked : recipe (entry recipes paths LEVELS (r ∷ [])) [] d w ≡ recipe (entry book.recipes paths LEVELS (r ∷ [])) [] (slice_index_or book.recipes r no_recipe) nothing
      walked =
          ap (λ x. recipe (entry recipes paths LEVELS (r ∷ [])) [] x w) (is_there ∙ get_or_default recipes r d no_recipe lt)
          ∙ (ap (λ x. recipe (entry x paths LEVELS (r ∷ [])) [] (slice_index_or x r no_recipe) w) same
          ∙ ap (recipe (entry book.recipes paths LEVELS (r ∷ [])) [] (slice_index_or book.recipes r no_recipe)) start)

      pub recipe_planned : (u : Unit {0}) (plan : Plan) → IsGone (recipe (entry recipes paths LEVELS (r ∷ [])) [] d w) (Ok u) v → plan ≡ plan_by v → plan_of paths book name ≡ Ok plan
      recipe_planned u plan gone is =
          by ∙ (ap by_place (sym (some ∙ ap (place_from 0 name) same)) ∙ (ap (λ x. and_then x (λ w. Ok (plan_by w))) (sym walked ∙ gone) ∙ ap Ok (sym is)))

      pub recipe_refused : (fault : RecipeFault) → IsGone (recipe (entry recipes paths LEVELS (r ∷ [])) [] d w) (Err fault) v → fault ≢ NoMemory → plan_of paths book name ≡ Err fault
      recipe_refused fault gone not =
          by ∙ (ap by_place (sym (some ∙ ap (place_from 0 name) same)) ∙ ap (λ x. and_then x (λ w. Ok (plan_by w))) (sym walked ∙ gone not))

pub no_plan : (meant : Result Plan RecipeFault) (fault : RecipeFault) → fault ≡ NoMemory → fault ≢ NoMemory → meant ≡ Err fault
no_plan meant fault is not = absurd (not is)

pub ruleset planned = (leaf_planned, no_plan)
