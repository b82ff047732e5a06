-- Where a path stops being one that an entry may have.
use Rattle.std.specs.Prelude.{◌≡◌, ◌⊎◌, ℕ, ◌<◌, ◌≤◌, Bool, false, ◌==◌, not, nat_lt, if◌then◌else◌, List, [], ◌∷◌}
use Rattle.std.specs.Prelude.{◌++◌, length, take, slice_index, IsUtf8}
use Rattle.std.specs.List.{All, list_all, slice_split}
use Rattle.rw_host.specs.Path.{is_part}
use Rattle.journal_text.specs.Changes.{IsPathText}
use Rattle.journal_text.specs.Parts.{between, MayFollow}

-- no path that an entry may have goes on so
abbrev pub Refused : List ℕ → List ℕ → ℕ → Type 0
Refused before front b = (more : List ℕ) → MayFollow before (front ++ b ∷ more) → ⊥

-- reading a line for a path stops there: no path has its next byte
pub record StopsAt (before line : List ℕ) (stop : ℕ) : Type 0 where
  pub place : stop ≤ length line
  pub next : stop < length line → Refused before (take stop line) (slice_index line stop)

abbrev pub no_control : List ℕ → Bool
no_control bytes = list_all (λ b. not (nat_lt b 32)) bytes

-- the first byte that differs is smaller
abbrev pub is_below : List ℕ → List ℕ → Bool
is_below [] path = false
is_below (a ∷ before) [] = false
is_below (a ∷ before) (b ∷ path) = if a == b then is_below before path else nat_lt b a

abbrev pub AreHigh : List ℕ → Type 0
AreHigh [] = Unit {0}
AreHigh (b ∷ bytes) = (128 ≤ b) × AreHigh bytes

-- the bytes begin a text in UTF-8: none, or the rest of one character, is missing
pub record Utf8Front (bytes : List ℕ) : Type 0 where
  pub rest : List ℕ
  pub high : AreHigh rest
  pub text : IsUtf8 (bytes ++ rest)

abbrev pub NoSlash : List ℕ → Type 0
NoSlash bytes = All (λ b. (b == 47) ≡ false) bytes

-- all parts may stand in a path
abbrev pub parts_ok : List ℕ → Bool
parts_ok text = list_all is_part (slice_split (λ b. b == 47) text)

-- each part up to the last `/` may stand in a path
pub record PartsFront (bytes : List ℕ) : Type 0 where
  pub done : List ℕ
  pub part : List ℕ
  pub joined : bytes ≡ done ++ part
  pub one : NoSlash part
  pub same : (more : List ℕ) → parts_ok (done ++ more) ≡ parts_ok more

-- the same, up to a place in a line, where the open part begins at another
pub record PartsAt (line : List ℕ) (start at : ℕ) : Type 0 where
  pub from : start ≤ at
  pub one : NoSlash (between line start at)
  pub same : (more : List ℕ) → parts_ok (take start line ++ more) ≡ parts_ok more

-- some path that an entry may have begins with these bytes
pub record PathFront (before front : List ℕ) : Type 0 where
  pub rest : List ℕ
  pub may : MayFollow before (front ++ rest)

-- the path of an entry before, or none
abbrev pub IsBefore : List ℕ → Type 0
IsBefore before = (before ≡ []) ⊎ IsPathText before
