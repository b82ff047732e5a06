-- What comes of a part by what comes of its own parts.
use Rattle.std.proofs.Common.{◌≡◌, ◌≢◌, ℕ, ◌+◌, ◌<◌, ◌≤◌, Bool, true, false, List, ◌∷◌, length, take, drop, get_or}
use Rattle.std.proofs.Common.{Ok, Err, refl, sym, ap, ◌∙◌, add-one, drop-cons}
use Rattle.std.specs.Prelude.{◌||◌}
use Rattle.std.specs.List.{list_any}
use Rattle.std.proofs.lemmas.List.{drop_all, take_all}
use Rattle.std.proofs.lemmas.List.Folds.{list_any_more, list_any_at}
use Rattle.recipe_yaml.specs.declared.fault.RecipeFault.{RecipeFault}
use Rattle.recipe_yaml.specs.declared.fault.RecipeFault.TheVariants.{NoMemory}
use Rattle.recipe_yaml.specs.Checked.{Checked, ◌>>=◌, each}

-- a fault of the first part
pub bind_fault : {A B : Type 0} (a : Checked A) (f : A → Checked B) (e : RecipeFault) → (e ≢ NoMemory → a ≡ Err e)
    → e ≢ NoMemory → (a >>= f) ≡ Err e
bind_fault a f e h not = ap (λ x. x >>= f) (h not)

pub bind_ok : {A B : Type 0} (a : Checked A) (f : A → Checked B) (x : A) → a ≡ Ok x → (a >>= f) ≡ f x
bind_ok a f x h = ap (λ y. y >>= f) h

pub ruleset binds = (bind_fault, bind_ok)

-- ---- one part after another

cut : {A : Type 0} (xs : List A) (i : ℕ) (d : A) → i < length xs → drop i xs ≡ get_or xs i d ∷ drop (i + 1) xs
cut xs i d lt = drop-cons xs i d lt ∙ rw add-one refl

module _ {A B : Type 0} (step : A → B → Checked A) (bs : List B) (i : ℕ) (before : A) (all : Checked A)
    (so_far : each step before (drop i bs) ≡ all) where
  next : (d : B) → i < length bs
      → each step before (drop i bs) ≡ (step before (get_or bs i d) >>= λ more. each step more (drop (i + 1) bs))
  unfolding each
  next d lt = ap (each step before) (cut bs i d lt)

  pub each_more : (d : B) (new : A) → i < length bs → step before (get_or bs i d) ≡ Ok new
      → each step new (drop (i + 1) bs) ≡ all
  each_more d new lt e =
      sym (next d lt ∙ ap (λ x. x >>= λ more. each step more (drop (i + 1) bs)) e) ∙ so_far

  pub each_fault : (d : B) (f : RecipeFault) → i < length bs → (f ≢ NoMemory → step before (get_or bs i d) ≡ Err f)
      → f ≢ NoMemory → all ≡ Err f
  each_fault d f lt e not =
      sym so_far ∙ (next d lt ∙ ap (λ x. x >>= λ more. each step more (drop (i + 1) bs)) (e not))

  pub each_end : length bs ≤ i → all ≡ Ok before
  unfolding each
  each_end le = sym so_far ∙ ap (each step before) (drop_all i bs le)

-- ---- whether one of a list passes a test

module _ {A : Type 0} (p : A → Bool) (xs : List A) (i : ℕ) where
  pub any_more : (d : A) → i < length xs → list_any p (take i xs) ≡ false → p (get_or xs i d) ≡ false
      → list_any p (take (i + 1) xs) ≡ false
  any_more d lt e h = list_any_more p xs i d lt ∙ (ap (λ b. b || p (get_or xs i d)) e ∙ h)

  pub any_here : (d : A) → i < length xs → p (get_or xs i d) ≡ true → true ≡ list_any p xs
  any_here d lt h = sym (list_any_at p xs i d lt h)

  pub any_end : length xs ≤ i → list_any p (take i xs) ≡ false → false ≡ list_any p xs
  any_end le e = sym e ∙ ap (list_any p) (take_all i xs le)

pub ruleset any_by = (any_more, any_here, any_end)
