-- What a run begins with: the opening state, and the plan.
use Rattle.std.specs.Prelude.{ℕ, List, [], map as map_list, codes, Option, None, Some, Result, Ok, Err}
use Rattle.std.specs.Option.{option_map}
use Rattle.std.specs.FinMap as map
use Rattle.rw_host.specs.Files.{Files, first_bytes}
use Rattle.kept_files.specs.Readings.{Reads}
use Rattle.kept_files.specs.States.{State}
use Rattle.recipe_yaml.specs.Books.{recipes_in}
use Rattle.recipe_yaml.specs.Plans.{plan_of}
use Rattle.recipe_yaml.specs.declared.book.RecipeBook.{RecipeBook}
use Rattle.recipe_yaml.specs.declared.fault.RecipeFault.{RecipeFault}
use Rattle.recipe_yaml.specs.declared.plans.Plan.{Plan}
use Rattle.j_repair.specs.Changes.{file_of}
use Rattle.rewrite_cli.specs.declared.sources.TheConstants.{MOST_READ}
use Rattle.rewrite_cli.specs.Meanings.{Meanings}
use Rattle.rewrite_cli.specs.Sources.{sources_of}

-- the source files of a repository with what they read as
unfoldable pub opening : Reads → Files → State
opening read files = map_list (file_of read) (sources_of files)

-- a repository without a recipe file defines no recipe
abbrev pub book_by : Reads → Option (List ℕ) → Result RecipeBook RecipeFault
book_by read None = Ok (record { recipes = [] })
book_by read (Some bytes) = recipes_in read bytes

unfoldable pub book_in : Reads → Files → Result RecipeBook RecipeFault
book_in read files = book_by read (option_map (first_bytes MOST_READ) (map.get files (codes "rewrite.yml")))

abbrev pub plan_by : Meanings → List ℕ → Result RecipeBook RecipeFault → Result Plan RecipeFault
plan_by meanings name (Ok book) = plan_of meanings.key_paths book name
plan_by meanings name (Err fault) = Err fault

-- the plan of the recipe of this name
unfoldable pub plan_in : Meanings → Files → List ℕ → Result Plan RecipeFault
plan_in meanings files name = plan_by meanings name (book_in meanings.read files)
