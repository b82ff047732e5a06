-- Types and type arguments among leaves, by the classes of the leaves.
use Rattle.std.specs.Prelude.{◌≡◌, ℕ, ◌+◌, ◌≤◌, ◌⊎◌}
use Rattle.java_lex.specs.declared.class.TheConstants.{ID, PRIM, LESS, GREATER, COMMA, DOT, BRACKET_OPEN, BRACKET_CLOSE}
use Rattle.java_lex.specs.declared.class.TheConstants.{QUESTION, EXTENDS, SUPER, AND}

-- what types are made of
pub data TypePart : Type 0 where
  -- any number of `[ ]`
  dims : TypePart
  -- what stands behind a name of a type: `.` and names, each perhaps with type arguments, and `[ ]` at the end
  dotted : TypePart
  -- the same, with the type arguments of that name
  named : TypePart
  -- a type
  typed : TypePart
  -- types that `&` joins
  bounds : TypePart
  -- an argument
  argument : TypePart
  -- one or more arguments separated by `,`, and `>`
  listed : TypePart
  -- `>`, or `,` and such a list
  closed : TypePart
  -- type arguments
  arguments : TypePart

-- Where c gives the class of each leaf: the leaves from i on to before j are of this form.
pub data Spans (c : ℕ → ℕ) : TypePart → ℕ → ℕ → Type 0 where
  no-dims : {i j : ℕ} → i ≡ j → Spans c dims i j
  more-dims : {i j : ℕ} → c i ≡ BRACKET_OPEN → c (i + 1) ≡ BRACKET_CLOSE → Spans c dims (i + 2) j → Spans c dims i j
  undotted : {i j : ℕ} → Spans c dims i j → Spans c dotted i j
  dot-name : {i j : ℕ} → c i ≡ DOT → c (i + 1) ≡ ID → Spans c named (i + 2) j → Spans c dotted i j
  plain : {i j : ℕ} → Spans c dotted i j → Spans c named i j
  with-arguments : {i m j : ℕ} → Spans c arguments i m → Spans c dotted m j → Spans c named i j
  of-prim : {i j : ℕ} → c i ≡ PRIM → Spans c dims (i + 1) j → Spans c typed i j
  of-name : {i j : ℕ} → c i ≡ ID → Spans c named (i + 1) j → Spans c typed i j
  one-bound : {i j : ℕ} → Spans c typed i j → Spans c bounds i j
  more-bounds : {i m j : ℕ} → Spans c typed i m → c m ≡ AND → Spans c bounds (m + 1) j → Spans c bounds i j
  a-type : {i j : ℕ} → Spans c typed i j → Spans c argument i j
  any : {i j : ℕ} → c i ≡ QUESTION → j ≡ i + 1 → Spans c argument i j
  any-bound : {i j : ℕ} → c i ≡ QUESTION → (c (i + 1) ≡ EXTENDS) ⊎ (c (i + 1) ≡ SUPER) → Spans c typed (i + 2) j
      → Spans c argument i j
  bounded : {i j : ℕ} → c i ≡ ID → c (i + 1) ≡ EXTENDS → Spans c bounds (i + 2) j → Spans c argument i j
  one-argument : {i m j : ℕ} → Spans c argument i m → Spans c closed m j → Spans c listed i j
  at-end : {i j : ℕ} → c i ≡ GREATER → j ≡ i + 1 → Spans c closed i j
  more-arguments : {i j : ℕ} → c i ≡ COMMA → Spans c listed (i + 1) j → Spans c closed i j
  no-arguments : {i j : ℕ} → c i ≡ LESS → c (i + 1) ≡ GREATER → j ≡ i + 2 → Spans c arguments i j
  some-arguments : {i j : ℕ} → c i ≡ LESS → Spans c listed (i + 1) j → Spans c arguments i j

-- the longest type that begins at leaf i ends before leaf j
pub record IsTypeAt (c : ℕ → ℕ) (i j : ℕ) : Type 0 where
  pub is : Spans c typed i j
  pub longest : (k : ℕ) → Spans c typed i k → k ≤ j
