-- The recipe file, and what is told of its faults.
use Rattle.std.proofs.Common.{◌≡◌, ◌≢◌, ℕ, ◌++◌, List, [], Option, None, Some, Result, Ok, Err, refl, sym, ap, subst, ◌∙◌, append_assoc, append-nil}
use Rattle.std.specs.Prelude.{codes, decimal}
use Rattle.std.specs.Option.{option_map}
use Rattle.std.specs.FinMap as map
use Rattle.rw_base.specs.declared.place.Place.{Place}
use Rattle.rw_host.specs.Files.{Files, first_bytes}
use Rattle.kept_files.specs.Readings.{Reads}
use Rattle.recipe_yaml.specs.Books.{recipes_in}
use Rattle.recipe_yaml.specs.Plans.{plan_of}
use Rattle.recipe_yaml.specs.declared.book.RecipeBook.{RecipeBook}
use Rattle.recipe_yaml.specs.declared.book.Written.{Written}
use Rattle.recipe_yaml.specs.declared.fault.RecipeFault.{RecipeFault}
use Rattle.recipe_yaml.specs.declared.fault.RecipeFault.TheVariants as fault
use Rattle.recipe_yaml.specs.declared.plans.Plan.{Plan}
use Rattle.rewrite_cli.specs.declared.limits.Limit.{Limit}
use Rattle.rewrite_cli.specs.declared.sources.TheConstants.{MOST_READ}
use Rattle.rewrite_cli.specs.declared.stop.Stop.{Stop}
use Rattle.rewrite_cli.specs.declared.stop.Stop.TheVariants as stop
use Rattle.rewrite_cli.specs.Answers.{at_place, recipe_fault_line}
use Rattle.rewrite_cli.specs.Ends.{IsPlanStop, IsRecipeFile, IsSilent, IsToldBy, TellsFault}
use Rattle.rw_host.specs.declared.fault.StoreFault.{StoreFault}
use Rattle.rw_host.specs.declared.fault.StoreFault.TheVariants as store_fault
use Rattle.rewrite_cli.specs.Statuses.{stop_of}
use Rattle.rewrite_cli.specs.Meanings.{Meanings}
use Rattle.rewrite_cli.specs.Opening.{book_in, book_by, plan_in, plan_by}

-- ---- lines

pub no_place : (old : List ℕ) → old ≡ old ++ at_place None
no_place old = sym (append-nil old)

pub fault_is : (number : ℕ) (place : Option Place) → codes "recipe fault " ++ decimal number ++ at_place place ++ codes "\n" ≡ recipe_fault_line (fault.Wrong number place)
unfolding recipe_fault_line
fault_is number place = refl

pub place_is : (old : List ℕ) (place : Place) → old ++ codes " at " ++ decimal place.line ++ codes ":" ++ decimal place.column ≡ old ++ at_place (Some place)
place_is old place =
    append_assoc (old ++ codes " at " ++ decimal place.line) (codes ":") (decimal place.column)
    ∙ (append_assoc (old ++ codes " at ") (decimal place.line) (codes ":" ++ decimal place.column)
    ∙ (append_assoc old (codes " at ") (decimal place.line ++ (codes ":" ++ decimal place.column))
    ∙ ap (λ t. old ++ t) (sym (append_assoc (codes " at ") (decimal place.line) (codes ":" ++ decimal place.column)) ∙ sym (append_assoc (codes " at " ++ decimal place.line) (codes ":") (decimal place.column)))))

pub ruleset lines = (no_place, fault_is, place_is)

-- ---- stops

pub recipe_stop : (line : List ℕ) → IsPlanStop (stop.Recipe line)
unfolding IsPlanStop
recipe_stop line = tt

pub read_stop : IsPlanStop stop.ReadFault
unfolding IsPlanStop
read_stop = tt

pub memory_stop : IsPlanStop stop.NoMemory
unfolding IsPlanStop
memory_stop = tt

pub told_line : (number : ℕ) (place : Option Place) (line : List ℕ) → line ≡ recipe_fault_line (fault.Wrong number place) → IsToldBy (fault.Wrong number place) (stop.Recipe line)
unfolding IsToldBy
told_line number place line e = e

pub told_nothing : (f : RecipeFault) → IsToldBy f stop.NoMemory
unfolding IsToldBy
told_nothing f = tt

pub told_read : (f : RecipeFault) → IsToldBy f stop.ReadFault
unfolding IsToldBy
told_read f = tt

pub ruleset stops = (recipe_stop, memory_stop, told_line, told_nothing)

pub store_stop : (f : StoreFault) (s : Stop) → s ≡ stop_of f → f ≢ store_fault.TooMany → IsPlanStop s
unfolding IsPlanStop
store_stop store_fault.Failed s e n = rw e tt
store_stop store_fault.TooMany s e n = absurd (n refl)
store_stop store_fault.NoMemory s e n = rw e tt

module _ {A : Type 0} where
  pub tells_store : (r : Result A RecipeFault) (f : StoreFault) (s : Stop) → s ≡ stop_of f → TellsFault r s
  unfolding TellsFault IsToldBy
  tells_store (Ok a) store_fault.Failed s e = rw e tt
  tells_store (Ok a) store_fault.TooMany s e = rw e tt
  tells_store (Ok a) store_fault.NoMemory s e = rw e tt
  tells_store (Err f) store_fault.Failed s e = rw e tt
  tells_store (Err f) store_fault.TooMany s e = rw e tt
  tells_store (Err f) store_fault.NoMemory s e = rw e tt

  pub tells_memory : (r : Result A RecipeFault) → TellsFault r stop.NoMemory
  unfolding TellsFault IsToldBy
  tells_memory (Ok a) = tt
  tells_memory (Err f) = tt

  pub tells_read : (r : Result A RecipeFault) → TellsFault r stop.ReadFault
  unfolding TellsFault IsToldBy
  tells_read (Ok a) = tt
  tells_read (Err f) = tt

  pub tells_write : (r : Result A RecipeFault) → TellsFault r stop.WriteFault
  unfolding TellsFault IsToldBy
  tells_write (Ok a) = tt
  tells_write (Err f) = tt

  pub tells_limit : (l : Limit) (r : Result A RecipeFault) → TellsFault r (stop.Limit l)
  unfolding TellsFault IsToldBy
  tells_limit l (Ok a) = tt
  tells_limit l (Err f) = tt

  pub tells_damage : (line : List ℕ) (r : Result A RecipeFault) → TellsFault r (stop.Damaged line)
  unfolding TellsFault IsToldBy
  tells_damage line (Ok a) = tt
  tells_damage line (Err f) = tt

  pub tells_fault : (r : Result A RecipeFault) (f : RecipeFault) (s : Stop) → r ≡ Err f → IsToldBy f s → TellsFault r s
  unfolding TellsFault
  tells_fault r f s e t = rw e t

  tells_by : (r : Result A RecipeFault) (f : RecipeFault) (s : Stop) → (f ≢ fault.NoMemory → r ≡ Err f) → IsToldBy f s → (f ≡ fault.NoMemory → s ≡ stop.NoMemory) → TellsFault r s
  tells_by r (fault.Wrong n p) s h t m = tells_fault r (fault.Wrong n p) s (h (λ e. absurd (cc))) t
  tells_by r fault.NoMemory s h t m = rw (m refl) (tells_memory r)

-- ---- the recipe file

pub file_is : (files : Files) (found : Option (List ℕ)) → found ≡ option_map (first_bytes MOST_READ) (map.get files (codes "rewrite.yml")) → IsRecipeFile files found
unfolding IsRecipeFile
file_is files found e = e

pub silent_store : (f : StoreFault) (s : Stop) → s ≡ stop_of f → IsSilent s
unfolding IsSilent
silent_store store_fault.Failed s e = rw e tt
silent_store store_fault.TooMany s e = rw e tt
silent_store store_fault.NoMemory s e = rw e tt

pub ruleset bytes = (file_is, silent_store, store_stop)

module _ (read : Reads) where
  pub no_book : (found : Option (List ℕ)) (items : List Written) → None ≡ found → items ≡ [] → book_by read found ≡ Ok (record { recipes = items })
  no_book found items e n = sym (ap (book_by read) e) ∙ ap (λ xs. Ok (record { recipes = xs })) (sym n)

  pub good_book : (found : Option (List ℕ)) (bytes : List ℕ) (book : RecipeBook) → Some bytes ≡ found → recipes_in read bytes ≡ Ok book → book_by read found ≡ Ok book
  good_book found bytes book e h = sym (ap (book_by read) e) ∙ h

  pub bad_book : (found : Option (List ℕ)) (bytes : List ℕ) (f : RecipeFault) (s : Stop) → Some bytes ≡ found → (f ≢ fault.NoMemory → recipes_in read bytes ≡ Err f) → IsToldBy f s
      → (f ≡ fault.NoMemory → s ≡ stop.NoMemory) → TellsFault (book_by read found) s
  bad_book found bytes f s e h t m = tells_by (book_by read found) f s (λ n. sym (ap (book_by read) e) ∙ h n) t m

pub ruleset books = (no_book, good_book, bad_book)

-- ---- the plan

module _ (meanings : Meanings) (files : Files) (name : List ℕ) (found : Option (List ℕ)) (is : IsRecipeFile files found) where
  book_is : book_in meanings.read files ≡ book_by meanings.read found
  unfolding book_in IsRecipeFile
  book_is = ap (book_by meanings.read) (sym is)

  plan_is : (book : RecipeBook) → book_by meanings.read found ≡ Ok book → plan_in meanings files name ≡ plan_of meanings.key_paths book name
  unfolding plan_in
  plan_is book e = ap (plan_by meanings name) (book_is ∙ e)

  pub good_plan : (book : RecipeBook) (plan : Plan) → book_by meanings.read found ≡ Ok book → plan_of meanings.key_paths book name ≡ Ok plan → plan_in meanings files name ≡ Ok plan
  good_plan book plan e h = plan_is book e ∙ h

  pub bad_plan : (book : RecipeBook) (f : RecipeFault) (s : Stop) → book_by meanings.read found ≡ Ok book → (f ≢ fault.NoMemory → plan_of meanings.key_paths book name ≡ Err f) → IsToldBy f s
      → (f ≡ fault.NoMemory → s ≡ stop.NoMemory) → TellsFault (plan_in meanings files name) s
  bad_plan book f s e h t m = tells_by (plan_in meanings files name) f s (λ n. plan_is book e ∙ h n) t m

  no_book_by : (b : Result RecipeBook RecipeFault) (s : Stop) → TellsFault b s → TellsFault (plan_by meanings name b) s
  unfolding TellsFault IsToldBy
  no_book_by (Err f) s t = t
  no_book_by (Ok book) (stop.Recipe line) t = absurd t
  no_book_by (Ok book) stop.ReadFault t = tells_read (plan_of meanings.key_paths book name)
  no_book_by (Ok book) stop.WriteFault t = tells_write (plan_of meanings.key_paths book name)
  no_book_by (Ok book) stop.NoMemory t = tells_memory (plan_of meanings.key_paths book name)
  no_book_by (Ok book) (stop.Limit l) t = tells_limit l (plan_of meanings.key_paths book name)
  no_book_by (Ok book) (stop.Damaged line) t = tells_damage line (plan_of meanings.key_paths book name)

  pub no_plan : (s : Stop) → TellsFault (book_by meanings.read found) s → TellsFault (plan_in meanings files name) s
  unfolding plan_in
  no_plan s t = subst (λ b. TellsFault (plan_by meanings name b) s) (sym book_is) (no_book_by (book_by meanings.read found) s t)

pub no_file : {A : Type 0} (r : Result A RecipeFault) (s : Stop) → IsSilent s → TellsFault r s
unfolding IsSilent TellsFault IsToldBy
no_file r (stop.Recipe line) i = absurd i
no_file (Ok a) stop.ReadFault i = tt
no_file (Ok a) stop.WriteFault i = tt
no_file (Ok a) stop.NoMemory i = tt
no_file (Ok a) (stop.Limit l) i = tt
no_file (Ok a) (stop.Damaged line) i = tt
no_file (Err f) stop.ReadFault i = tt
no_file (Err f) stop.WriteFault i = tt
no_file (Err f) stop.NoMemory i = tt
no_file (Err f) (stop.Limit l) i = tt
no_file (Err f) (stop.Damaged line) i = tt

pub ruleset plans = (good_plan, bad_plan, no_plan, no_file)
