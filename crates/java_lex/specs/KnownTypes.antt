-- What the code knows of the forms that begin at a leaf.
use Rattle.std.specs.Prelude.{◌≡◌, ◌≢◌, ℕ, ◌<◌, ◌⊎◌, Option, Some, None, List, slice_index_or}
use Rattle.java_lex.specs.declared.class.TheConstants.{GREATER, COMMA, AND}
use Rattle.java_lex.specs.declared.type_ends.TypeEnds.{TypeEnds}
use Rattle.java_lex.specs.Types.{TypePart, Spans, dims, named, arguments, listed, bounds}

-- what doesn't follow a type that could go on, and what doesn't follow such an argument
abbrev pub OfType : ℕ → Type 0
OfType x = (x ≢ COMMA) × (x ≢ GREATER) × (x ≢ AND)

abbrev pub OfArgument : ℕ → Type 0
OfArgument x = (x ≢ COMMA) × (x ≢ GREATER)

-- The longest of this form ends before leaf e, and a shorter one before a leaf with which it could go on.
pub record LongestType (c : ℕ → ℕ) (f : TypePart) (i e : ℕ) : Type 0 where
  pub is : Spans c f i e
  pub only : (j : ℕ) → Spans c f i j → (j ≡ e) ⊎ ((j < e) × OfType (c j))

pub record LongestArgument (c : ℕ → ℕ) (f : TypePart) (i e : ℕ) : Type 0 where
  pub is : Spans c f i e
  pub only : (j : ℕ) → Spans c f i j → (j ≡ e) ⊎ ((j < e) × OfArgument (c j))

-- There is one of this form.
pub record One (c : ℕ → ℕ) (f : TypePart) (i e : ℕ) : Type 0 where
  pub is : Spans c f i e
  pub only : (j : ℕ) → Spans c f i j → j ≡ e

-- There is none.
pub record Nothing (c : ℕ → ℕ) (f : TypePart) (i : ℕ) : Type 0 where
  pub not : (j : ℕ) → Spans c f i j → ⊥

abbrev pub ToldType : (ℕ → ℕ) → TypePart → ℕ → Option ℕ → Type 0
ToldType c f i None = Nothing c f i
ToldType c f i (Some e) = LongestType c f i e

abbrev pub ToldArgument : (ℕ → ℕ) → TypePart → ℕ → Option ℕ → Type 0
ToldArgument c f i None = Nothing c f i
ToldArgument c f i (Some e) = LongestArgument c f i e

abbrev pub ToldOne : (ℕ → ℕ) → TypePart → ℕ → Option ℕ → Type 0
ToldOne c f i None = Nothing c f i
ToldOne c f i (Some e) = One c f i e

-- ---- the table of a segment

-- nothing begins at leaf i
abbrev pub no_types : ℕ → TypeEnds
no_types i = record { dims = i; named = i; arguments = None; listed = None; bounds = None }

abbrev pub types_at : List TypeEnds → ℕ → TypeEnds
types_at types i = slice_index_or types i (no_types i)

-- What is told of leaf i is right.
pub record Knows (c : ℕ → ℕ) (i : ℕ) (l : TypeEnds) : Type 0 where
  pub at_dims : LongestType c dims i l.dims
  pub at_named : LongestType c named i l.named
  pub at_arguments : ToldOne c arguments i l.arguments
  pub at_listed : ToldOne c listed i l.listed
  pub at_bounds : ToldArgument c bounds i l.bounds

-- What is told of the leaves behind leaf i is right.
pub record KnowsBehind (c : ℕ → ℕ) (i : ℕ) (types : List TypeEnds) : Type 0 where
  pub behind : (k : ℕ) → i < k → Knows c k (types_at types k)
