-- The parts of a journal.
use Rattle.std.specs.Prelude.{◌≡◌, ◌≢◌, ◌⊎◌, ℕ, ◌+◌, ◌-◌, ◌^◌, ◌<◌, ◌≤◌, Bool, true, false, ◌&&◌, ◌==◌, nat_le, min}
use Rattle.std.specs.Prelude.{List, [], ◌∷◌, ◌++◌, length, take, drop, codes}
use Rattle.std.specs.Ordering.{nat_cmp}
use Rattle.std.specs.Cmp.Lexicographic.{slice_cmp}
use Rattle.std.specs.declared.cmp.Ordering.TheVariants.{Less}
use Rattle.journal_text.specs.Changes.{Change, IsFree, IsPathText, IsBatch}
use Rattle.journal_text.specs.Forms.{Form, Then, Took, next_of, StuckAt}
use Rattle.journal_text.specs.Numerals.{numeral}
use Rattle.journal_text.specs.Reading.{JournalFront, is_digest_line}
use Rattle.journal_text.specs.Text.{entry_text, entries_text, head_text, body_text, digest_line}

abbrev pub is_digit : ℕ → Bool
is_digit b = nat_le 48 b && nat_le b 57

-- the bytes begin with no digit
abbrev pub NoDigit : List ℕ → Type 0
NoDigit [] = Unit {0}
NoDigit (b ∷ bytes) = is_digit b ≡ false

abbrev pub begins_with : ℕ → List ℕ → Bool
begins_with b [] = false
begins_with b (x ∷ bytes) = x == b

-- the byte stands nowhere in the list
abbrev pub Lacks : ℕ → List ℕ → Type 0
Lacks end [] = Unit {0}
Lacks end (b ∷ bytes) = (b ≢ end) × Lacks end bytes

-- the bytes from one place to another
abbrev pub between : List ℕ → ℕ → ℕ → List ℕ
between bytes at end = take (end - at) (drop at bytes)

-- this text and no other
pub record IsWord (word : List ℕ) (x : Unit {0}) (text : List ℕ) : Type 0 where
  pub is : text ≡ word

pub record IsNumeral (n : ℕ) (text : List ℕ) : Type 0 where
  pub is : text ≡ numeral n

-- a text of a form, and the byte that ends it
pub record Ended {X : Type 0} (form : Form X) (end : ℕ) (x : X) (text : List ℕ) : Type 0 where
  pub body : List ℕ
  pub spells : form x body
  pub ended : text ≡ body ++ end ∷ []

-- as many bytes, whatever they are
pub record Counted (n : ℕ) (x text : List ℕ) : Type 0 where
  pub is : text ≡ x
  pub len : length text ≡ n

-- so many bytes stand there, where the number is held by another that is the greatest of its type for a greater one
abbrev pub TookBytes : ℕ → List ℕ → ℕ → ℕ → List ℕ → Type 0
TookBytes held bytes at end contents = (n : ℕ) → held ≡ min n (2 ^ 64 - 1) → Took (Counted n) bytes at end contents

-- so many bytes don't stand there
abbrev pub LacksBytes : ℕ → List ℕ → ℕ → ℕ → Type 0
LacksBytes held bytes at stop = (n : ℕ) → held ≡ min n (2 ^ 64 - 1) → StuckAt (Counted n) bytes at stop

-- an entry may have this path, behind an entry with that one
pub record MayFollow (before path : List ℕ) : Type 0 where
  pub less : slice_cmp nat_cmp before path ≡ Less
  pub is_path_text : IsPathText path
  pub free : IsFree path

pub record IsPathBehind (before x text : List ℕ) : Type 0 where
  pub is : text ≡ x
  pub may : MayFollow before x

-- `put LEN PATH`, LF, the bytes, LF
abbrev pub Put : List ℕ → Form (Unit {0} × (ℕ × (List ℕ × (List ℕ × Unit {0}))))
Put before = Then (IsWord (codes "put ")) (λ _. Then (Ended IsNumeral 32) (λ n.
    Then (Ended (IsPathBehind before) 10) (λ path. Then (Counted n) (λ bytes. IsWord (10 ∷ [])))))

-- `del PATH`, LF
abbrev pub Del : List ℕ → Form (Unit {0} × List ℕ)
Del before = Then (IsWord (codes "del ")) (λ _. Ended (IsPathBehind before) 10)

pub record IsEntry (before : List ℕ) (change : Change) (text : List ℕ) : Type 0 where
  pub may : MayFollow before change.0
  pub is : text ≡ entry_text change

-- the digits of a number up to that place, which no digit can follow, and its value, or the greatest that is held
pub record TookDigits (bytes : List ℕ) (at end held : ℕ) : Type 0 where
  pub n : ℕ
  pub value : held ≡ min n (2 ^ 64 - 1)
  pub place : end ≤ length bytes
  pub taken : drop at bytes ≡ numeral n ++ drop end bytes
  pub over : (n ≡ 0) ⊎ NoDigit (drop end bytes)

-- the same, where more digits may follow
pub record Digits (bytes : List ℕ) (at end held : ℕ) : Type 0 where
  pub n : ℕ
  pub above : 1 ≤ n
  pub value : held ≡ min n (2 ^ 64 - 1)
  pub taken : drop at bytes ≡ numeral n ++ drop end bytes

-- a number and the byte that ends it
pub record TookNumber (end_byte : ℕ) (bytes : List ℕ) (at end held : ℕ) : Type 0 where
  pub n : ℕ
  pub value : held ≡ min n (2 ^ 64 - 1)
  pub took : Took (Ended IsNumeral end_byte) bytes at end n

-- a line stands there, up to its LF
pub record IsLine (bytes : List ℕ) (at end : ℕ) : Type 0 where
  pub from : at ≤ end
  pub place : end < length bytes
  pub lacks : Lacks 10 (between bytes at end)
  pub taken : drop at bytes ≡ between bytes at end ++ 10 ∷ drop (end + 1) bytes

-- a path and the LF behind it
pub record TookPath (before bytes : List ℕ) (at end : ℕ) (path : List ℕ) : Type 0 where
  pub may : MayFollow before path
  pub place : end ≤ length bytes
  pub taken : drop at bytes ≡ path ++ 10 ∷ drop end bytes

-- the path of the last change, or that one where there is none
abbrev pub last_path : List ℕ → List Change → List ℕ
last_path before [] = before
last_path before (change ∷ changes) = last_path change.0 changes

-- a journal of so many entries begins with these bytes, up to a place behind some of its entries
pub record Done (n : ℕ) (bytes : List ℕ) (at : ℕ) (done : List Change) : Type 0 where
  pub batch : IsBatch done
  pub count : length done ≤ n
  pub place : at ≤ length bytes
  pub taken : bytes ≡ (head_text n ++ entries_text done) ++ drop at bytes

-- the same, with the number as it is held
pub record Going (bytes : List ℕ) (at held : ℕ) (done : List Change) : Type 0 where
  pub n : ℕ
  pub value : held ≡ min n (2 ^ 64 - 1)
  pub so_far : Done n bytes at done

-- all but the last line is read
pub record Finished (bytes : List ℕ) (at : ℕ) (changes : List Change) : Type 0 where
  pub batch : IsBatch changes
  pub place : at ≤ length bytes
  pub taken : bytes ≡ body_text changes ++ drop at bytes

-- the first two lines
abbrev pub Head : Form (Unit {0} × ℕ)
Head = Then (IsWord (codes "rewrite-journal 1\n")) (λ _. Ended IsNumeral 10)

-- the line of a digest with these digits
abbrev pub LastLine : List ℕ → Form (Unit {0} × (Unit {0} × Unit {0}))
LastLine digits = Then (IsWord (codes "sha256 ")) (λ _. Then (IsWord digits) (λ _. IsWord (10 ∷ [])))

-- no journal's body goes on so; reading stops at that place
pub record BodyStops (bytes : List ℕ) (stop : ℕ) : Type 0 where
  pub place : stop ≤ length bytes
  pub begins : JournalFront (take stop bytes)
  pub refuses : (changes : List Change) (more rest : List ℕ) → IsBatch changes
      → take stop bytes ++ next_of (drop stop bytes) more ≡ body_text changes ++ rest → ⊥

-- the line that stands there isn't that of this body's digest; reading stops at that place
pub record LineStops (body bytes : List ℕ) (at stop : ℕ) : Type 0 where
  pub place : stop ≤ length bytes
  pub front : List ℕ
  pub seen : drop at bytes ≡ front ++ drop stop bytes
  pub rest : List ℕ
  pub begins : digest_line body ≡ front ++ rest
  pub ends : (b : ℕ) (behind more : List ℕ) → drop stop bytes ≡ b ∷ behind → digest_line body ≢ front ++ b ∷ more
  pub differs : drop at bytes ≢ digest_line body

-- the line that stands there isn't that of this body's digest; what the fault's place is
pub record LineFault (body bytes : List ℕ) (at n : ℕ) : Type 0 where
  pub differs : drop at bytes ≢ digest_line body
  pub as_digest : is_digest_line (drop at bytes) ≡ true → n ≡ at + 7
  pub as_text : is_digest_line (drop at bytes) ≡ false → LineStops body bytes at n
