-- The elements of array types, as code finds them. No public clause stands on this.
use Rattle.std.specs.Prelude.{◌≡◌, ℕ, Option, None, Some}
use Rattle.std.specs.Borrow.{Bor}
use Rattle.jtypes.specs.declared.types.JType.{JType}
use Rattle.method_pattern.specs.Matching.{array_of}

-- the one element over which a type is an array type of so many dimensions, if there is one
abbrev pub IsElement : Option (Bor JType) → JType → ℕ → Type 0
IsElement None t dimensions = (other : JType) → t ≡ array_of dimensions other → ⊥
IsElement (Some element) t dimensions =
    (t ≡ array_of dimensions element.now)
    × ((other : JType) → t ≡ array_of dimensions other → element.now ≡ other)
