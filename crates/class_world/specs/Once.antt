-- Declared types of which each has a name of its own.
use Rattle.std.specs.Prelude.{◌≡◌, ℕ, Bool, false, List, [], ◌∷◌}
use Rattle.std.specs.List.{list_any}
use Rattle.indexmap.specs.IndexSet.{IndexSet, contains}
use Rattle.jtypes.specs.World.{name_eq}
use Rattle.declared_types.specs.declared.written.DeclaredType.{DeclaredType}
use Rattle.class_world.specs.Worlds.{first_of_each}

abbrev pub is_declared : List ℕ → List DeclaredType → Bool
is_declared name ds = list_any (λ d. name_eq d.name name) ds

abbrev pub NamesDiffer : List DeclaredType → Type 0
NamesDiffer [] = Unit {0}
NamesDiffer (d ∷ ds) = (is_declared d.name ds ≡ false) × NamesDiffer ds

-- these are the first declarations of each name among some, and the names are all of theirs
pub record AreFirsts {S : Type 0} (names : IndexSet (List ℕ) S) (firsts ds : List DeclaredType) : Type 0 where
  pub first : firsts ≡ first_of_each ds
  pub each_name : (n : List ℕ) → contains name_eq names n ≡ is_declared n ds
