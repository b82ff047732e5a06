-- Regular expressions over bytes, in which lexical grammars are written down.
use Rattle.std.specs.Prelude.{◌≡◌, ℕ, ◌≤◌, ◌⊎◌, List, [], ◌∷◌, ◌++◌}

infixr 30 ◌>>◌
infixr 20 ◌<|>◌
pub data Expression : Type 0 where
  -- no text at all
  nothing : Expression
  -- the empty text
  empty : Expression
  -- one byte from the first number to the second
  byte : ℕ → ℕ → Expression
  -- a text of the first and then one of the second
  ◌>>◌ : Expression → Expression → Expression
  -- a text of either
  ◌<|>◌ : Expression → Expression → Expression
  -- any number of texts of it, one behind another
  many : Expression → Expression

-- a text of any number of texts with P, one behind another
pub data Repeats (P : List ℕ → Type 0) : List ℕ → Type 0 where
  none : {s : List ℕ} → s ≡ [] → Repeats P s
  more : {s : List ℕ} (x y : List ℕ) → s ≡ x ++ y → P x → Repeats P y → Repeats P s

-- the text is one of the expression
abbrev pub Matches : Expression → List ℕ → Type 0
Matches nothing s = ⊥
Matches empty s = s ≡ []
Matches (byte least most) s = (b : ℕ) × (s ≡ b ∷ []) × (least ≤ b) × (b ≤ most)
Matches (r >> q) s = (x : List ℕ) × (y : List ℕ) × (s ≡ x ++ y) × Matches r x × Matches q y
Matches (r <|> q) s = Matches r s ⊎ Matches q s
Matches (many r) s = Repeats (λ x. Matches r x) s

-- ---- words for what is written often

-- nothing, or a text of it
abbrev pub optional : Expression → Expression
optional r = empty <|> r

-- this text alone
abbrev pub text : List ℕ → Expression
text [] = empty
text (b ∷ rest) = byte b b >> text rest

-- one of these bytes
abbrev pub one_of : List ℕ → Expression
one_of [] = nothing
one_of (b ∷ rest) = byte b b <|> one_of rest
