-- What the steps of the tries give. No public clause stands on this.
use Rattle.std.specs.Prelude.{◌≡◌, ℕ, List, [], ◌∷◌, Option, None, Some}
use Rattle.std.specs.Borrow.{Bor}
use Rattle.method_pattern.specs.Rows.{RowFits}
use Rattle.method_pattern.specs.Matching.{PieceTakes, ParamTakes}
use Rattle.method_pattern.specs.PartsLeft.{parts_left}
use Rattle.jtypes.specs.declared.types.JType.{JType}
use Rattle.method_pattern.specs.declared.pattern.NamePiece.{NamePiece}
use Rattle.method_pattern.specs.declared.pattern.ParamPattern.{ParamPattern}
use Rattle.method_pattern.specs.declared.pattern.ParamPattern.TheVariants.{Rest}
use Rattle.method_pattern.specs.declared.pattern.NamePiece.TheVariants.{AnyParts}
use Rattle.method_pattern.specs.declared.onward.Onward.{Onward}
use Rattle.method_pattern.specs.declared.onward.Onward.TheVariants.{Ended, Gap, Taken, Stuck}

-- the first elements of a row and of items, and what becomes of them
abbrev pub IsOnward : {L R P X : Type 0} → (L → List P) → (R → List X) → (P → Type 0) → (P → X → Type 0) → Onward L R
    → List P → List X → Type 0
IsOnward row_of items_of IsGap Takes Ended left rest = (left ≡ []) × (rest ≡ [])
IsOnward {L} {R} {P} {X} row_of items_of IsGap Takes (Gap others) left rest =
    (p : P) × (left ≡ p ∷ row_of others) × IsGap p
IsOnward {L} {R} {P} {X} row_of items_of IsGap Takes (Taken others further) left rest =
    (p : P) × (x : X) × (left ≡ p ∷ row_of others) × (rest ≡ x ∷ items_of further) × (IsGap p → ⊥) × Takes p x
IsOnward row_of items_of IsGap Takes Stuck left rest = RowFits IsGap Takes left rest → ⊥

abbrev pub IsByteOnward : Onward (Bor (List ℕ)) (Bor (List ℕ)) → List ℕ → List ℕ → Type 0
IsByteOnward = IsOnward (λ l. l.now) (λ r. r.now) (λ p. p ≡ 42) (λ p b. p ≡ b)

abbrev pub IsPieceOnward : Onward (Bor (List NamePiece)) (Option (Bor (List ℕ))) → List NamePiece → List (List ℕ)
    → Type 0
IsPieceOnward = IsOnward (λ l. l.now) parts_left (λ p. p ≡ AnyParts) PieceTakes

abbrev pub IsParamOnward : Onward (Bor (List ParamPattern)) (Bor (List JType)) → List ParamPattern → List JType → Type 0
IsParamOnward = IsOnward (λ l. l.now) (λ r. r.now) (λ p. p ≡ Rest) ParamTakes

-- the items behind the first, if there is one
abbrev pub IsBehindFirst : {R X : Type 0} → (R → List X) → Option R → List X → Type 0
IsBehindFirst items_of None items = items ≡ []
IsBehindFirst {R} {X} items_of (Some rest) items = (x : X) × (items ≡ x ∷ items_of rest)
