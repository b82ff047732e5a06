-- The parts of a name that are left.
use Rattle.std.specs.Prelude.{List, [], ℕ, Option, None, Some}
use Rattle.std.specs.Borrow.{Bor}
use Rattle.method_pattern.specs.Matching.{parts_of}

abbrev pub parts_left : Option (Bor (List ℕ)) → List (List ℕ)
parts_left None = []
parts_left (Some name) = parts_of name.now
