-- The parameters of a method, as the three phases of a choice see them.
use Rattle.std.specs.Prelude.{◌≡◌, ℕ, ◌+◌, ◌≤◌, ◌<◌, zero, suc, List, [], ◌∷◌, length, replicate, Bool}
use Rattle.std.specs.Prelude.{◌&&◌, nat_eq, nat_le, nat_lt, if◌then◌else◌, IsTrue}
use Rattle.jtypes.specs.Arrays.{ArrayOf}
use Rattle.jtypes.specs.declared.signatures.MethodSig.{MethodSig}
use Rattle.jtypes.specs.declared.types.JType.{JType}
use Rattle.j_overload.specs.declared.phase.Phase.{Phase}
use Rattle.j_overload.specs.declared.phase.Phase.TheVariants.{Strict, Loose, Variable}

-- the type of the elements of an array; what is no array stands for itself
abbrev pub element_type : JType → JType
element_type (ArrayOf element) = element
element_type t = t

-- the first k variable arity parameter types: the last parameter is its element type, repeated without end
-- (JLS 15.12.2.4)
abbrev pub spread : List JType → ℕ → List JType
spread [] k = []
spread (t ∷ []) k = replicate k (element_type t)
spread (t ∷ u ∷ us) zero = []
spread (t ∷ u ∷ us) (suc k) = t ∷ spread (u ∷ us) k

-- the types that k arguments are tested against
unfoldable pub parameter_types : Phase → MethodSig → ℕ → List JType
parameter_types Strict m k = m.params
parameter_types Loose m k = m.params
parameter_types Variable m k = spread m.params k

-- a method can take k arguments (JLS 15.12.2.1): as many as it has parameters, or by variable arity at
-- least all but the last
abbrev pub TakesNumber : Phase → MethodSig → ℕ → Type 0
TakesNumber Strict m k = length m.params ≡ k
TakesNumber Loose m k = length m.params ≡ k
TakesNumber Variable m k = IsTrue m.varargs × (0 < length m.params) × (length m.params ≤ k + 1)

abbrev pub takes_number : Phase → MethodSig → ℕ → Bool
takes_number Strict m k = nat_eq (length m.params) k
takes_number Loose m k = nat_eq (length m.params) k
takes_number Variable m k = m.varargs && (nat_lt 0 (length m.params) && nat_le (length m.params) (k + 1))

-- a method has a type for the argument at this position
abbrev pub HasTypeAt : Phase → MethodSig → ℕ → Type 0
HasTypeAt Strict m i = i < length m.params
HasTypeAt Loose m i = i < length m.params
HasTypeAt Variable m i = 0 < length m.params

-- how many types of two methods are compared for k arguments: k, and one more where the second has k + 1
-- parameters (JLS 15.12.2.5)
abbrev pub compared_count : ℕ → MethodSig → ℕ
compared_count k n = if nat_eq (length n.params) (k + 1) then k + 1 else k
