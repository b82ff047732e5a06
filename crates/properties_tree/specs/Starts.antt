-- How a line begins, as the reader and the look-up of keys find it. No public clause stands on this.
use Rattle.std.specs.Prelude.{◌≡◌, ℕ, ◌+◌, ◌<◌, ◌≤◌, false, IsTrue, List, ◌++◌, length, take, drop}
use Rattle.properties_tree.specs.Plain.{has_backslash}
use Rattle.properties_tree.specs.Lines.{leading_blanks}
use Rattle.properties_tree.specs.Sizes.{BeginsEntry, BeginsPassed, begins_no_entry, whole_size}
use Rattle.properties_tree.specs.Cutting.{key_size}
use Rattle.properties_tree.specs.Keys.{with_key, IsKeyPlace}
use Rattle.properties_tree.specs.declared.reader.Sizes.{Sizes}
use Rattle.properties_tree.specs.declared.starts.KeyStart.{KeyStart}
use Rattle.properties_tree.specs.declared.starts.Start.{Start}
use Rattle.properties_tree.specs.declared.starts.Start.TheVariants as start
use Rattle.properties_tree.specs.declared.keys.KeyPlace.{KeyPlace}
use Rattle.properties_tree.specs.declared.keys.LineMatch.{LineMatch}
use Rattle.properties_tree.specs.declared.keys.LineMatch.TheVariants as line_match

-- A text begins with an entry: so many bytes its blanks and its key have, and the key may be known to have no
-- backslash.
pub record IsKeyStart (text : List ℕ) (s : KeyStart) : Type 0 where
  pub blanks_is : s.blanks ≡ length (leading_blanks text)
  pub starts : begins_no_entry (drop s.blanks text) ≡ false
  pub key_is : s.key ≡ key_size (drop s.blanks text)
  pub inside : s.blanks + s.key ≤ length text
  pub plain : IsTrue s.plain → has_backslash (take s.key (drop s.blanks text)) ≡ false

abbrev pub IsStart : List ℕ → Start → Type 0
IsStart text (start.Passed size) = BeginsPassed text size
IsStart text (start.Entry s) = IsKeyStart text s

-- A text begins with an entry whose key stands here.
pub record BeginsKey (text : List ℕ) (p : KeyPlace) : Type 0 where
  pub sizes : Sizes
  pub begins : BeginsEntry text sizes
  pub from_is : p.from ≡ sizes.blanks
  pub to_is : p.to ≡ sizes.blanks + sizes.key
  pub next_is : p.next ≡ whole_size sizes

-- A text begins with lines of so many bytes that keep their bytes.
pub record IsKept (key text : List ℕ) (size : ℕ) : Type 0 where
  pub some : 0 < size
  pub inside : size ≤ length text
  pub new :
      (written : List ℕ) → with_key key written text ≡ take size text ++ with_key key written (drop size text)

abbrev pub IsLineMatch : List ℕ → List ℕ → LineMatch → Type 0
IsLineMatch key text (line_match.Kept size) = IsKept key text size
IsLineMatch key text (line_match.WithKey p) = IsKeyPlace key text 0 p
