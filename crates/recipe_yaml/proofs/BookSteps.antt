-- The book of a file by what it reads as.
use Rattle.std.proofs.Common.{◌≡◌, ℕ, ◌≤◌, List, [], length, Some, Result, Ok, Err, refl, sym, ap, subst, ◌∙◌}
use Rattle.std.specs.Prelude.{codes}
use Rattle.rw_base.specs.declared.leaves.TheConstants.{MOST_BYTES}
use Rattle.kept_files.specs.declared.reading.Reading.{Reading}
use Rattle.kept_files.specs.declared.reading.Reading.TheVariants as reading
use Rattle.rw_base.specs.declared.place.Refused.{Refused}
use Rattle.rw_base.specs.Arena.{Arena}
use Rattle.rw_grammar.specs.Reading.{is-too-large, is-cut}
use Rattle.yaml_tree.specs.Reading.{IsYamlOutcome}
use Rattle.kept_files.specs.declared.kind.FileKind.{FileKind}
use Rattle.kept_files.specs.declared.kind.FileKind.TheVariants.{Java, Yaml, Properties, Other}
use Rattle.kept_files.specs.Kinds.{kind_of}
use Rattle.kept_files.specs.Readings.{IsReading, IsReadAs, Reads, java_reading, yaml_reading}
use Rattle.recipe_yaml.specs.declared.book.RecipeBook.{RecipeBook}
use Rattle.recipe_yaml.specs.declared.fault.RecipeFault.{RecipeFault}
use Rattle.recipe_yaml.specs.declared.fault.RecipeFault.TheVariants.{Wrong}
use Rattle.recipe_yaml.specs.Checked.{Gives}
use Rattle.recipe_yaml.specs.Books.{book_of, book_in, recipes_in}

small_outcome : (bytes : List ℕ) (t : Arena) (outcome : Result Arena Refused) → IsYamlOutcome bytes outcome
    → outcome ≡ Ok t → length bytes ≤ MOST_BYTES
small_outcome bytes t outcome (is-too-large large e) is = absurd (cc)
small_outcome bytes t outcome (is-cut leaves bad few cut is-outcome) is = few

no_java : (t : Arena) (outcome : Result Arena Refused) → reading.Yaml t ≡ java_reading outcome → ⊥
no_java t (Ok x) e = cc
no_java t (Err x) e = cc

yaml_tree : (t : Arena) (outcome : Result Arena Refused) → reading.Yaml t ≡ yaml_reading outcome → outcome ≡ Ok t
yaml_tree t (Ok x) e = cc
yaml_tree t (Err x) e = absurd (cc)

small_as : (kind : FileKind) (bytes : List ℕ) (t : Arena) → kind ≡ Yaml → IsReadAs kind bytes (reading.Yaml t)
    → length bytes ≤ MOST_BYTES
unfolding IsReadAs
small_as Yaml bytes t e (outcome, (is, same)) = small_outcome bytes t outcome is (yaml_tree t outcome same)
small_as Java bytes t e is = absurd (cc)
small_as Properties bytes t e is = absurd (cc)
small_as Other bytes t e is = absurd (cc)

-- a recipe file with a tree isn't too large
pub small_file : (bytes : List ℕ) (t : Arena) → IsReading (codes "recipes.yml") (Some bytes) (reading.Yaml t)
    → length bytes ≤ MOST_BYTES
unfolding IsReading kind_of Rattle.kept_files.specs.Kinds.is_source Rattle.kept_files.specs.Kinds.kind_by_ending Rattle.kept_files.specs.Kinds.ends_with
small_file bytes t is = small_as (kind_of (codes "recipes.yml")) bytes t refl is

pub book_yaml : (bytes : List ℕ) (t : Arena) → book_in bytes t ≡ book_of bytes (reading.Yaml t)
unfolding book_of
book_yaml bytes t = refl

pub book_refused : (bytes : List ℕ) (refused : Refused) (r : Reading) → r ≡ reading.Refused refused
    → book_of bytes r ≡ Err (Wrong 1 (Some refused.place))
unfolding book_of
book_refused bytes refused r is = ap (book_of bytes) is

module _ (bytes : List ℕ) (r : Reading) (book : RecipeBook) (none : book ≡ record { recipes = [] }) where
  pub book_java : (t : Arena) → r ≡ reading.Java t → book_of bytes r ≡ Ok book
  unfolding book_of
  book_java t is = ap (book_of bytes) is ∙ ap Ok (sym none)

  pub book_properties : (t : Arena) → r ≡ reading.Properties t → book_of bytes r ≡ Ok book
  unfolding book_of
  book_properties t is = ap (book_of bytes) is ∙ ap Ok (sym none)

  pub book_unread : r ≡ reading.Unread → book_of bytes r ≡ Ok book
  unfolding book_of
  book_unread is = ap (book_of bytes) is ∙ ap Ok (sym none)

-- the answer by the reading is that of the file
pub book_is : (read : Reads) (bytes : List ℕ) (r : Reading) (result : Result RecipeBook RecipeFault)
    → r ≡ read (codes "recipes.yml") (Some bytes) → Gives result (book_of bytes r)
    → Gives result (recipes_in read bytes)
unfolding recipes_in
book_is read bytes r result e given = subst (λ x. Gives result (book_of bytes x)) e given

pub ruleset readings = (small_file, book_yaml)
