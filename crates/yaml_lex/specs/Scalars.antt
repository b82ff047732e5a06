-- Plain and quoted scalars, and names of anchors, each in a text that begins with it (YAML 1.2, chapters 6 and 7).
use Rattle.std.specs.Prelude.{◌≡◌, ℕ, ◌+◌, ◌-◌, ◌<◌, ◌≤◌, ◌==◌, ◌&&◌, ◌||◌, not, Bool, true, false, List, [], ◌∷◌}
use Rattle.std.specs.Prelude.{length, drop, slice_index}
use Rattle.yaml_lex.specs.Characters.{is_line_end, is_blank, is_white, is_flow_sign, is_indicator, needs_more, begins}
use Rattle.yaml_lex.specs.Characters.{is_gap, is_colon_gap}

-- the first n bytes all pass a test, and behind them none that does stands
pub record IsRun (p : ℕ → Bool) (s : List ℕ) (n : ℕ) : Type 0 where
  pub inside : n ≤ length s
  pub all : (k : ℕ) → k < n → p (slice_index s k) ≡ true
  pub ends : begins p (drop n s) ≡ false

-- anything but a line end
abbrev pub in_line : ℕ → Bool
in_line b = not (is_line_end b)

-- ---- plain scalars

-- A plain scalar can begin here: with no white space and no indicator, and with - ? : only before a character that is
-- no white space.
unfoldable pub begins_plain : List ℕ → Bool
begins_plain [] = false
begins_plain (b ∷ rest) = not (is_white b) && not (is_indicator b) && not (needs_more b && is_gap rest)

-- in flow context a sign ends it too, and `:` before one
abbrev pub ends_in_flow : List ℕ → Bool
ends_in_flow [] = false
ends_in_flow (b ∷ rest) = is_flow_sign b || ((b == 58) && begins is_flow_sign rest)

-- what ends a plain scalar: the end, a line end, a blank before `#`, `:` before a blank, a line end or the end
unfoldable pub ends_plain : Bool → List ℕ → Bool
ends_plain flow [] = true
ends_plain flow (b ∷ rest) =
    is_line_end b || (is_blank b && begins (λ c. c == 35) rest) || is_colon_gap (b ∷ rest)
    || (flow && ends_in_flow (b ∷ rest))

-- The first n bytes are a plain scalar: up to what ends it, without the blanks before that.
pub record IsPlain (flow : Bool) (s : List ℕ) (n : ℕ) : Type 0 where
  pub begins : begins_plain s ≡ true
  pub some : 0 < n
  pub blanks : ℕ
  pub inside : n + blanks ≤ length s
  pub goes : (k : ℕ) → k < n + blanks → ends_plain flow (drop k s) ≡ false
  pub ends : ends_plain flow (drop (n + blanks) s) ≡ true
  pub last : is_blank (slice_index s (n - 1)) ≡ false
  pub trailing : (k : ℕ) → n ≤ k → k < n + blanks → is_blank (slice_index s k) ≡ true

-- ---- quoted scalars

-- two bytes that belong together: in double quotes a backslash and what follows it, in single quotes two quotes
abbrev pub is_pair : ℕ → List ℕ → Bool
is_pair quote [] = false
is_pair quote (b ∷ rest) =
    ((quote == 34) && (b == 92)) || ((quote == 39) && (b == 39) && begins (λ c. c == 39) rest)

-- A text behind an opening quote: its first n bytes end in the closing one. It may go over several lines.
pub data Closes (quote : ℕ) : List ℕ → ℕ → Type 0 where
  -- the closing quote stands here
  closing : {b : ℕ} {rest : List ℕ} {n : ℕ} → is_pair quote (b ∷ rest) ≡ false → b ≡ quote → n ≡ 1
      → Closes quote (b ∷ rest) n
  -- a pair stands here
  pair : {b c : ℕ} {rest : List ℕ} {m n : ℕ} → is_pair quote (b ∷ c ∷ rest) ≡ true → Closes quote rest m → n ≡ m + 2
      → Closes quote (b ∷ c ∷ rest) n
  -- any other byte
  char : {b : ℕ} {rest : List ℕ} {m n : ℕ} → is_pair quote (b ∷ rest) ≡ false → (b ≡ quote → ⊥)
      → Closes quote rest m → n ≡ m + 1 → Closes quote (b ∷ rest) n

-- The first byte is a quote. The first n bytes go up to the one that closes it.
pub record IsQuoted (s : List ℕ) (n : ℕ) : Type 0 where
  pub some : 0 < n
  pub closes : Closes (slice_index s 0) (drop 1 s) (n - 1)

-- ---- names

-- characters of the name of an anchor
unfoldable pub in_name : ℕ → Bool
in_name b = not (is_white b) && not (is_flow_sign b)

-- `&` or `*`, and at least one character
pub record IsName (s : List ℕ) (n : ℕ) : Type 0 where
  pub some : 2 ≤ n
  pub run : IsRun in_name (drop 1 s) (n - 1)
