-- Candidates by their positions.
use Rattle.std.specs.Prelude.{◌≡◌, ℕ, List, Option, None, Some, slice_get, IsTrue}
use Rattle.std.specs.List.{filter_map}
use Rattle.jtypes.specs.declared.signatures.MethodSig.{MethodSig}
use Rattle.j_overload.specs.Parameters.{takes_number}
use Rattle.j_overload.specs.declared.phase.Phase.{Phase}

abbrev pub with_position : ℕ → Option MethodSig → Option (ℕ × MethodSig)
with_position i None = None
with_position i (Some m) = Some (i, m)

-- the candidates at these positions, each with its position
unfoldable pub candidates_at : List MethodSig → List ℕ → List (ℕ × MethodSig)
candidates_at candidates places = filter_map (λ i. with_position i (slice_get candidates i)) places

-- a candidate stands at this position, and can take k arguments in a phase
abbrev pub TakesAt : List MethodSig → Phase → ℕ → ℕ → Type 0
TakesAt candidates phase k i = (m : MethodSig) × (slice_get candidates i ≡ Some m) × IsTrue (takes_number phase m k)
