-- What is kept of the names and expressions of Java files, unit by unit.
use Rattle.std.specs.Prelude.{◌≡◌, ℕ, ◌+◌, ◌<◌, Bool, true, false, nat_eq, List, [], ◌∷◌, map}
use Rattle.std.specs.List.{list_any}
use Rattle.rw_base.specs.Arena.{Arena}
use Rattle.rw_grammar.specs.Results.{class_in}
use Rattle.java_lex.specs.declared.class.TheConstants.{ID}
use Rattle.java_reader.specs.Units.{units_of}
use Rattle.java_reader.specs.declared.unit.UnitRef.{UnitRef}
use Rattle.jtypes.specs.declared.unit_types.UnitTypes.{UnitTypes}
use Rattle.kept_files.specs.declared.reading.Reading.{Reading}
use Rattle.kept_files.specs.declared.reading.Reading.TheVariants as reading
use Rattle.kept_files.specs.States.{State, file_at}

-- the units of a file: an accepted Java file's in their order, and none of another
abbrev pub units_in : Reading → List UnitRef
units_in (reading.Java t) = units_of t
units_in _ = []

unfoldable pub units_at : State → ℕ → List UnitRef
units_at files i = units_in (file_at files i).reading

-- ---- what holds of all that is kept of a unit

abbrev pub is_among : List ℕ → ℕ → Bool
is_among numbers n = list_any (nat_eq n) numbers

-- no number stands twice
unfoldable pub AreOnce : List ℕ → Type 0
AreOnce [] = Unit {0}
AreOnce (n ∷ numbers) = (is_among numbers n ≡ false) × AreOnce numbers

-- the numbers of things that are kept by number
abbrev pub numbers : {A : Type 0} → List (ℕ × A) → List ℕ
numbers kept = map (λ p. p.0) kept

-- each identifier among the leaves of a unit has a symbol; leaves are counted from the unit's first
unfoldable pub HasNames : Reading → UnitRef → List ℕ → Type 0
HasNames (reading.Java t) u named =
    (n : ℕ) → u.first + n < u.past → class_in t.leaves (u.first + n) ≡ ID → is_among named n ≡ true
HasNames _ u named = Unit {0}

pub record AreKeptOf (r : Reading) (u : UnitRef) (known : UnitTypes) : Type 0 where
  pub each_name : HasNames r u (numbers known.symbols.items)
  pub symbols : AreOnce (numbers known.symbols.items)
  pub types : AreOnce (numbers known.types.items)
  pub chosen : AreOnce (numbers known.chosen.items)
