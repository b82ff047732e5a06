-- The plan of a recipe.
use Rattle.std.specs.Prelude.{ℕ, false, List, [], ◌∷◌, slice_index_or, Some, None, Result, Ok, Err, if◌then◌else◌}
use Rattle.std.specs.List.{list_any}
use Rattle.recipe_yaml.specs.KeyPathTexts.{KeyPathsOf}
use Rattle.recipe_yaml.specs.Faults.{and_then}
use Rattle.recipe_yaml.specs.LeafNames.{leaf_named, taken_by}
use Rattle.recipe_yaml.specs.Leaves.{with_options}
use Rattle.recipe_yaml.specs.Leading.{place_from}
use Rattle.recipe_yaml.specs.Walks.{entry, recipe, no_recipe}
use Rattle.recipe_yaml.specs.declared.book.RecipeBook.{RecipeBook}
use Rattle.recipe_yaml.specs.declared.fault.RecipeFault.{RecipeFault}
use Rattle.recipe_yaml.specs.declared.fault.RecipeFault.TheVariants.{Wrong}
use Rattle.recipe_yaml.specs.declared.leaf_name.LeafName.{LeafName}
use Rattle.recipe_yaml.specs.declared.plans.Plan.{Plan}
use Rattle.recipe_yaml.specs.declared.walk.Walked.{Walked}
use Rattle.recipe_yaml.specs.declared.walk.TheConstants.{LEVELS}

-- before the first entry
abbrev pub nothing : Walked
nothing = record { met = 0; conditions = []; again = false; leaves = [] }

abbrev pub plan_by : Walked → Plan
plan_by w = record { leaves = w.leaves; conditions = w.conditions; again = w.again }

-- a leaf recipe alone, which must need no option
unfoldable pub leaf_plan : KeyPathsOf → List ℕ → Result Plan RecipeFault
leaf_plan paths name = elim (leaf_named name) [
  | None ↦ Err (Wrong 4 None)
  | Some leaf ↦ if list_any (λ t. t.is_required) (taken_by leaf) then Err (Wrong 5 None)
      else Ok (record {
        leaves = record { recipe = with_options paths leaf []; name = name; conditions = [] } ∷ [];
        conditions = [];
        again = false;
      })
]

-- The plan of the recipe of this name: of one of the book what its lists lead to, itself around them.
unfoldable pub plan_of : KeyPathsOf → RecipeBook → List ℕ → Result Plan RecipeFault
plan_of paths book name = elim (place_from 0 name book.recipes) [
  | None ↦ leaf_plan paths name
  | Some r ↦ and_then
      (recipe (entry book.recipes paths LEVELS (r ∷ [])) [] (slice_index_or book.recipes r no_recipe) nothing)
      (λ w. Ok (plan_by w))
]
