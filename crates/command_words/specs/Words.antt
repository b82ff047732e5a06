-- The words of the command line, and what they ask for.
use Rattle.std.specs.Prelude.{ℕ, zero, suc, ◌==◌, Bool, false, not, ◌&&◌, List, [], ◌∷◌, decimal, codes}
use Rattle.std.specs.Prelude.{Option, None, Some, is_none, is_some, unwrap_or, if◌then◌else◌}
use Rattle.std.specs.Option.{option_map, option_and_then}
use Rattle.std.specs.Str.{bytes_eq}

-- what a run is asked: the recipe's name, and how many cycles there may be. How many workers there are is no part of it
pub record Asked : Type 0 where
  pub recipe : List ℕ
  pub cycles : ℕ

-- What the program does: `run` applies a recipe, `dry` tells what `run` would do, `check` reads all files, `recover`
-- finishes the writes of a run that was cut off, `history` tells the runs that there were.
pub data Command : Type 0 where
  apply : Asked → Command
  dry : Asked → Command
  check : Command
  recover : Command
  history : Command

-- ---- options, each at most once

pub record Options : Type 0 where
  pub recipe : Option (List ℕ)
  pub workers : Option ℕ
  pub cycles : Option ℕ

unfoldable pub no_options : Options
no_options = record { recipe = None; workers = None; cycles = None }

-- a text is a value: it isn't empty and doesn't begin with `-`
unfoldable pub is_value : List ℕ → Bool
is_value [] = false
is_value (b ∷ rest) = not (b == 45)

-- the number from 1 to this one that a word writes in decimal
unfoldable pub number_to : ℕ → List ℕ → Option ℕ
number_to zero word = None
number_to (suc n) word = if bytes_eq word (decimal (suc n)) then Some (suc n) else number_to n word

-- one option more, which isn't there yet, and whose value is of its form
unfoldable pub with_recipe : List ℕ → Options → Option Options
with_recipe value o =
    if is_none o.recipe && is_value value
    then Some (record { recipe = Some value; workers = o.workers; cycles = o.cycles })
    else None

unfoldable pub with_workers : Option ℕ → Options → Option Options
with_workers number o =
    if is_none o.workers && is_some number
    then Some (record { recipe = o.recipe; workers = number; cycles = o.cycles })
    else None

unfoldable pub with_cycles : Option ℕ → Options → Option Options
with_cycles number o =
    if is_none o.cycles && is_some number
    then Some (record { recipe = o.recipe; workers = o.workers; cycles = number })
    else None

unfoldable pub with_option : List ℕ → List ℕ → Options → Option Options
with_option name value o =
    if bytes_eq name (codes "--recipe") then with_recipe value o
    else if bytes_eq name (codes "--workers") then with_workers (number_to 64 value) o
    else if bytes_eq name (codes "--cycles") then with_cycles (number_to 10 value) o
    else None

-- what stands before and behind the first `=` of a word
unfoldable pub cut_at_equals : List ℕ → Option (List ℕ × List ℕ)
cut_at_equals [] = None
cut_at_equals (b ∷ rest) =
    if b == 61 then Some ([], rest) else option_map (λ p. (b ∷ p.0, p.1)) (cut_at_equals rest)

-- The options that words give, besides these: `--name=value` in one word, or `--name` with its value in the next.
unfoldable pub options : List (List ℕ) → Options → Option Options
options [] o = Some o
options (word ∷ []) o = option_and_then (λ p. with_option p.0 p.1 o) (cut_at_equals word)
options (word ∷ value ∷ rest) o = elim (cut_at_equals word) [
  | Some p ↦ option_and_then (options (value ∷ rest)) (with_option p.0 p.1 o)
  | None ↦ option_and_then (options rest) (with_option word value o)
]

-- ---- commands

-- a recipe's name has to be there; without a number of cycles there are 3 at most
unfoldable pub asked_by : Options → Option Asked
asked_by o = option_map (λ name. record { recipe = name; cycles = unwrap_or o.cycles 3 }) o.recipe

-- `check` has no option but the number of workers
unfoldable pub check_by : Options → Option Command
check_by o = if is_none o.recipe && is_none o.cycles then Some check else None

-- these commands have no option
unfoldable pub plain_by : Command → Options → Option Command
plain_by command o = if is_none o.recipe && is_none o.workers && is_none o.cycles then Some command else None

unfoldable pub command_by : List ℕ → Options → Option Command
command_by name o =
    if bytes_eq name (codes "run") then option_map apply (asked_by o)
    else if bytes_eq name (codes "dry") then option_map dry (asked_by o)
    else if bytes_eq name (codes "check") then check_by o
    else if bytes_eq name (codes "recover") then plain_by recover o
    else if bytes_eq name (codes "history") then plain_by history o
    else None

-- what the words ask for
unfoldable pub command_of : List (List ℕ) → Option Command
command_of [] = None
command_of (name ∷ words) = option_and_then (command_by name) (options words no_options)
