-- What comes of a part of a recipe file: what it says, or the first fault in it.
use Rattle.std.specs.Prelude.{◌≡◌, ◌≢◌, List, [], ◌∷◌, ◌++◌, Result, Ok, Err}
use Rattle.recipe_yaml.specs.declared.fault.RecipeFault.{RecipeFault}
use Rattle.recipe_yaml.specs.declared.fault.RecipeFault.TheVariants.{NoMemory}

abbrev pub Checked : Type 0 → Type 0
Checked A = Result A RecipeFault

infixl 10 ◌>>=◌
abbrev pub ◌>>=◌ : {A B : Type 0} → Checked A → (A → Checked B) → Checked B
(Ok a) >>= f = f a
(Err fault) >>= f = Err fault

-- one part after another, of which the first fault counts, from what was there before on
unfoldable pub each : {A B : Type 0} → (A → B → Checked A) → A → List B → Checked A
each step before [] = Ok before
each step before (b ∷ bs) = step before b >>= λ more. each step more bs

-- one more of a list
abbrev pub one_more : {A : Type 0} → List A → Checked A → Checked (List A)
one_more before a = a >>= λ new. Ok (before ++ new ∷ [])

-- an answer is what comes of a part, unless memory is wanting
abbrev pub Gives : {A : Type 0} → Result A RecipeFault → Checked A → Type 0
Gives (Ok a) checked = checked ≡ Ok a
Gives (Err fault) checked = fault ≢ NoMemory → checked ≡ Err fault

-- and so is what is left behind
abbrev pub Leaves : {A : Type 0} → Result (Unit {0}) RecipeFault → A → Checked A → Type 0
Leaves (Ok u) new checked = checked ≡ Ok new
Leaves (Err fault) new checked = fault ≢ NoMemory → checked ≡ Err fault
