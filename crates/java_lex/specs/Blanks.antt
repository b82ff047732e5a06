-- White space and comments (JLS 3.6, 3.7), in a text that begins with them.
use Rattle.std.specs.Prelude.{◌≡◌, ℕ, ◌+◌, ◌<◌, ◌≤◌, ◌⊎◌, ◌==◌, ◌&&◌, ◌||◌, Bool, true, false, List, length}
use Rattle.std.specs.Prelude.{slice_index}

abbrev pub is_line_end : ℕ → Bool
is_line_end b = (b == 10) || (b == 13)

abbrev pub is_white : ℕ → Bool
is_white b = (b == 32) || (b == 9) || (b == 12) || is_line_end b

-- `//`, and `/*`
abbrev pub begins_line_comment : List ℕ → Bool
begins_line_comment s = (slice_index s 0 == 47) && (slice_index s 1 == 47)

abbrev pub begins_block_comment : List ℕ → Bool
begins_block_comment s = (slice_index s 0 == 47) && (slice_index s 1 == 42)

abbrev pub begins_comment : List ℕ → Bool
begins_comment s = begins_line_comment s || begins_block_comment s

-- `*/` stands at byte k
abbrev pub ClosesAt : List ℕ → ℕ → Type 0
ClosesAt s k = (slice_index s k ≡ 42) × (slice_index s (k + 1) ≡ 47)

-- the first n bytes are a comment from `//` to before the next CR or LF or the end
pub record IsLineComment (s : List ℕ) (n : ℕ) : Type 0 where
  pub begins : begins_line_comment s ≡ true
  pub inside : n ≤ length s
  pub one_line : (k : ℕ) → k < n → is_line_end (slice_index s k) ≡ false
  pub ends : (n ≡ length s) ⊎ (is_line_end (slice_index s n) ≡ true)

-- the first n bytes are a comment from `/*` to the next `*/`
pub record IsBlockComment (s : List ℕ) (n : ℕ) : Type 0 where
  pub begins : begins_block_comment s ≡ true
  pub close : ℕ
  pub closes : ClosesAt s close
  pub behind : 2 ≤ close
  pub first : (k : ℕ) → 2 ≤ k → k < close → ClosesAt s k → ⊥
  pub ends : n ≡ close + 2

-- a comment that begins with `/*` isn't closed
pub record IsOpenComment (s : List ℕ) : Type 0 where
  pub begins : begins_block_comment s ≡ true
  pub unclosed : (k : ℕ) → 2 ≤ k → ClosesAt s k → ⊥

-- the first n bytes are a comment
pub data IsComment (s : List ℕ) (n : ℕ) : Type 0 where
  line : IsLineComment s n → IsComment s n
  block : IsBlockComment s n → IsComment s n
