-- The walk through the lists of a recipe, and what it makes.
use Rattle.std.specs.Prelude.{◌≡◌, ◌≢◌, ℕ, zero, suc, ◌+◌, ◌-◌, ◌==◌, Bool, true, false, ◌||◌, ◌&&◌, nat_le, List, []}
use Rattle.std.specs.Prelude.{◌∷◌, ◌++◌, length, slice_index_or, Option, Some, None, Result, Ok, Err}
use Rattle.std.specs.Global.{Vec}
use Rattle.std.specs.List.{list_any}
use Rattle.recipe_yaml.specs.KeyPathTexts.{KeyPathsOf}
use Rattle.recipe_yaml.specs.Faults.{wrong_if, first_of, without, and_then}
use Rattle.recipe_yaml.specs.Leaves.{leaf_recipe}
use Rattle.recipe_yaml.specs.Leading.{place_from, scans, leads}
use Rattle.recipe_yaml.specs.declared.book.Written.{Written}
use Rattle.recipe_yaml.specs.declared.book.WrittenEntry.{WrittenEntry}
use Rattle.recipe_yaml.specs.declared.book.WrittenOption.{WrittenOption}
use Rattle.recipe_yaml.specs.declared.fault.RecipeFault.{RecipeFault}
use Rattle.recipe_yaml.specs.declared.fault.RecipeFault.TheVariants.{Wrong, NoMemory}
use Rattle.recipe_yaml.specs.declared.plans.PlannedLeaf.{PlannedLeaf}
use Rattle.recipe_yaml.specs.declared.walk.Walked.{Walked}
use Rattle.recipe_yaml.specs.declared.walk.TheConstants.{MOST_ENTRIES}

-- how far a walk came, or the first fault that it met
abbrev pub Went : Type 0
Went = Result Walked RecipeFault

-- how an entry is walked: whether it is a precondition, the positions of the preconditions around it
abbrev pub Entry : Type 0
Entry = Bool → List ℕ → WrittenEntry → Walked → Went

-- ---- a recipe, by how each entry in it is walked

unfoldable pub each : (WrittenEntry → Walked → Went) → List WrittenEntry → Walked → Went
each walk [] w = Ok w
each walk (e ∷ es) w = and_then (walk e w) (each walk es)

-- A precondition has the leaves that its entry leads to, and stands behind those that it needs.
abbrev pub opened : Walked → Walked
opened w = record { met = w.met; again = w.again; leaves = []; conditions = w.conditions }

abbrev pub closed : List PlannedLeaf → Walked → Walked
closed leaves w = record {
  met = w.met;
  again = w.again;
  leaves = leaves;
  conditions = w.conditions ++ record { leaves = w.leaves } ∷ [];
}

-- The preconditions of recipes around a precondition aren't those of its leaves.
unfoldable pub condition : Entry → WrittenEntry → Walked → Went
condition walk e w = and_then (walk true [] e (opened w)) (λ v. Ok (closed w.leaves v))

-- the preconditions one after another, and then the positions of those around and of these
unfoldable pub conditions : Entry → List ℕ → List WrittenEntry → Walked → Result (Walked × List ℕ) RecipeFault
conditions walk above [] w = Ok (w, above)
conditions walk above (e ∷ es) w =
    and_then (condition walk e w) (λ v. conditions walk (above ++ (length v.conditions - 1) ∷ []) es v)

abbrev pub noted : Bool → Walked → Walked
noted again w = record { met = w.met; again = w.again || again; leaves = w.leaves; conditions = w.conditions }

unfoldable pub recipe : Entry → List ℕ → Written → Walked → Went
recipe walk above r w =
    and_then (conditions walk above r.conditions (noted r.again w)) (λ p. each (walk false p.1) r.list p.0)

-- ---- an entry

abbrev pub counted : Walked → Walked
counted w = record { met = w.met + 1; again = w.again; leaves = w.leaves; conditions = w.conditions }

abbrev pub with_leaf : PlannedLeaf → Walked → Walked
with_leaf leaf w = record { met = w.met; again = w.again; leaves = w.leaves ++ leaf ∷ []; conditions = w.conditions }

unfoldable pub leaf_fault : Bool → WrittenEntry → ℕ → Option RecipeFault
leaf_fault is_condition e met = first_of (
    wrong_if (is_condition && scans e.name) 9 e.place
    ∷ wrong_if (nat_le MOST_ENTRIES met) 10 e.place
    ∷ [])

-- an entry that names no recipe of the book
unfoldable pub leaf_entry : KeyPathsOf → Bool → List ℕ → WrittenEntry → Walked → Went
leaf_entry paths is_condition above e w =
    and_then (leaf_recipe paths e) (λ leaf. without (leaf_fault is_condition e w.met)
    (Ok (with_leaf (record { recipe = leaf; name = e.name; conditions = above }) (counted w))))

-- a recipe of the book takes no options
abbrev pub no_options_fault : List WrittenOption → Option RecipeFault
no_options_fault [] = None
no_options_fault (o ∷ os) = Some (Wrong 6 (Some o.key_place))

abbrev pub no_recipe : Written
no_recipe = record { name = []; conditions = []; list = []; again = false }

module _ (book : List Written) where
  unfoldable pub recipe_fault : List ℕ → Bool → ℕ → WrittenEntry → ℕ → Option RecipeFault
  recipe_fault around is_condition r e met = first_of (
      no_options_fault e.options
      ∷ wrong_if (list_any (λ a. a == r) around) 8 e.place
      ∷ wrong_if (is_condition && leads book r) 9 e.place
      ∷ wrong_if (nat_le MOST_ENTRIES met) 10 e.place
      ∷ [])

  -- An entry, where these recipes are around it. Walks begin with one level more than entries may be met, so none comes
  -- to level zero.
  unfoldable pub entry : KeyPathsOf → ℕ → List ℕ → Entry
  entry paths zero around is_condition above e w = Err (Wrong 10 (Some e.place))
  entry paths (suc levels) around is_condition above e w = elim (place_from 0 e.name book) [
    | None ↦ leaf_entry paths is_condition above e w
    | Some r ↦ without (recipe_fault around is_condition r e w.met)
        (recipe (entry paths levels (around ++ r ∷ [])) above (slice_index_or book r no_recipe) (counted w))
  ]

-- preconditions led this far, with these positions, or to this fault, unless memory was wanted
abbrev pub IsListed : Result (Walked × List ℕ) RecipeFault → Result (Vec ℕ) RecipeFault → Walked → Type 0
IsListed went (Ok positions) w = went ≡ Ok (w, positions.items)
IsListed went (Err fault) w = fault ≢ NoMemory → went ≡ Err fault

-- a walk came this far, or met this fault, unless memory was wanted
abbrev pub IsGone : Went → Result (Unit {0}) RecipeFault → Walked → Type 0
IsGone went (Ok u) w = went ≡ Ok w
IsGone went (Err fault) w = fault ≢ NoMemory → went ≡ Err fault
