-- What a journal reads as.
use Rattle.std.specs.Prelude.{◌≡◌, ◌≢◌, ℕ, ◌+◌, ◌<◌, ◌≤◌, Bool, true, ◌&&◌, ◌||◌, ◌==◌, nat_le, List, ◌++◌, length}
use Rattle.std.specs.Prelude.{take, drop, slice_index, codes}
use Rattle.std.specs.List.{list_all}
use Rattle.std.specs.Str.{bytes_eq}
use Rattle.journal_text.specs.Changes.{Change, IsBatch}
use Rattle.journal_text.specs.Text.{body_text, digest_line, journal_text}
use Rattle.journal_text.specs.declared.fault.JournalFault.{JournalFault}
use Rattle.journal_text.specs.declared.fault.JournalFault.TheVariants.{At, NoMemory}

-- the bytes are the journal of that batch, and not too many
pub record Reads (bytes : List ℕ) (changes : List Change) : Type 0 where
  pub batch : IsBatch changes
  pub whole : bytes ≡ journal_text changes
  pub size : length bytes ≤ 1073741824

abbrev pub HasNoReading : List ℕ → Type 0
HasNoReading bytes = (changes : List Change) → Reads bytes changes → ⊥

-- some batch's journal, of any length, begins with these bytes
pub record JournalFront (front : List ℕ) : Type 0 where
  pub changes : List Change
  pub batch : IsBatch changes
  pub rest : List ℕ
  pub whole : journal_text changes ≡ front ++ rest

-- so many bytes are the longest front of any journal
pub record IsLongest (bytes : List ℕ) (n : ℕ) : Type 0 where
  pub place : n ≤ length bytes
  pub begins : JournalFront (take n bytes)
  pub ends : n < length bytes → JournalFront (take (n + 1) bytes) → ⊥

abbrev pub is_lower_digit : ℕ → Bool
is_lower_digit b = (nat_le 48 b && nat_le b 57) || (nat_le 97 b && nat_le b 102)

-- `sha256 `, 64 hex digits in lower case, LF
abbrev pub is_digest_line : List ℕ → Bool
is_digest_line line = (length line == 72) && bytes_eq (take 7 line) (codes "sha256 ")
    && list_all is_lower_digit (take 64 (drop 7 line)) && (slice_index line 71 == 10)

-- the bytes are a journal but for its digest, which begins at that place
pub record DiffersInDigest (bytes : List ℕ) (n : ℕ) : Type 0 where
  pub changes : List Change
  pub batch : IsBatch changes
  pub line : List ℕ
  pub whole : bytes ≡ body_text changes ++ line
  pub form : is_digest_line line ≡ true
  pub other : line ≢ digest_line (body_text changes)
  pub place : n ≡ length (body_text changes) + 7

-- where bytes without a reading stop being a journal
pub record IsPlace (bytes : List ℕ) (n : ℕ) : Type 0 where
  pub too_long : 1073741824 < length bytes → n ≡ 1073741824
  pub digest : (m : ℕ) → length bytes ≤ 1073741824 → DiffersInDigest bytes m → n ≡ m
  pub longest : length bytes ≤ 1073741824 → ((m : ℕ) → DiffersInDigest bytes m → ⊥) → IsLongest bytes n

-- what is said of a fault's place
abbrev pub OnAt : JournalFault → (ℕ → Type 0) → Type 0
OnAt (At n) said = said n
OnAt NoMemory said = Unit {0}
