-- Faults at an entry: of several the first counts.
use Rattle.std.specs.Prelude.{◌≡◌, ◌≢◌, ℕ, Bool, List, [], ◌∷◌, Option, Some, None, Result, Ok, Err, if◌then◌else◌}
use Rattle.rw_base.specs.declared.place.Place.{Place}
use Rattle.recipe_yaml.specs.declared.fault.RecipeFault.{RecipeFault}
use Rattle.recipe_yaml.specs.declared.fault.RecipeFault.TheVariants.{Wrong, NoMemory}

-- the fault of this number, where there is a place for it
abbrev pub wrong_at : ℕ → Option Place → Option RecipeFault
wrong_at number None = None
wrong_at number (Some place) = Some (Wrong number (Some place))

-- the fault of this number at a place, where it is one
abbrev pub wrong_if : Bool → ℕ → Place → Option RecipeFault
wrong_if is_wrong number place = if is_wrong then Some (Wrong number (Some place)) else None

abbrev pub first_of : List (Option RecipeFault) → Option RecipeFault
first_of [] = None
first_of (None ∷ faults) = first_of faults
first_of (Some fault ∷ faults) = Some fault

-- what comes where there is no fault
abbrev pub without : {A : Type 0} → Option RecipeFault → Result A RecipeFault → Result A RecipeFault
without (Some fault) a = Err fault
without None a = a

abbrev pub and_then : {A B : Type 0} → Result A RecipeFault → (A → Result B RecipeFault) → Result B RecipeFault
and_then (Ok a) f = f a
and_then (Err fault) f = Err fault

-- what comes of a call is this, unless memory is wanted
abbrev pub IsOutcome : {A : Type 0} → Result A RecipeFault → Result A RecipeFault → Type 0
IsOutcome meant (Ok a) = meant ≡ Ok a
IsOutcome meant (Err fault) = fault ≢ NoMemory → meant ≡ Err fault
