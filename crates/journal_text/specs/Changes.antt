-- What a batch changes.
use Rattle.std.specs.Prelude.{◌≡◌, ◌≢◌, ℕ, List, [], ◌∷◌, Option, IsTrue, IsUtf8}
use Rattle.std.specs.Option.{option_map}
use Rattle.std.specs.Ordering.{nat_cmp}
use Rattle.std.specs.Cmp.Lexicographic.{slice_cmp}
use Rattle.std.specs.declared.cmp.Ordering.TheVariants.{Less}
use Rattle.rw_host.specs.Path.{is_path}
use Rattle.journal_text.specs.declared.batch.Entry.{Entry}

-- a path and the bytes that it gets, or none where it is removed
abbrev pub Change : Type 0
Change = List ℕ × Option (List ℕ)

abbrev pub change_of : Entry → Change
change_of entry = (entry.path, option_map (λ bytes. bytes.items) entry.bytes)

abbrev pub changes_of : List Entry → List Change
changes_of [] = []
changes_of (entry ∷ entries) = change_of entry ∷ changes_of entries

-- `.rewrite/gate` and `.rewrite/journal`
unfoldable pub gate : List ℕ
gate = 46 ∷ 114 ∷ 101 ∷ 119 ∷ 114 ∷ 105 ∷ 116 ∷ 101 ∷ 47 ∷ 103 ∷ 97 ∷ 116 ∷ 101 ∷ []

unfoldable pub journal : List ℕ
journal = 46 ∷ 114 ∷ 101 ∷ 119 ∷ 114 ∷ 105 ∷ 116 ∷ 101 ∷ 47 ∷ 106 ∷ 111 ∷ 117 ∷ 114 ∷ 110 ∷ 97 ∷ 108 ∷ []

-- the path is neither the gate's nor the journal's
pub record IsFree (path : List ℕ) : Type 0 where
  pub no_gate : path ≢ gate
  pub no_journal : path ≢ journal

-- a path in UTF-8
pub record IsPathText (path : List ℕ) : Type 0 where
  pub parts : IsTrue (is_path path)
  pub text : IsUtf8 path

-- the paths strictly rise by their bytes, all of them behind this one
abbrev pub Rises : List ℕ → List Change → Type 0
Rises before [] = Unit {0}
Rises before (change ∷ changes) = (slice_cmp nat_cmp before change.0 ≡ Less) × Rises change.0 changes

abbrev pub AllFree : List Change → Type 0
AllFree [] = Unit {0}
AllFree (change ∷ changes) = IsFree change.0 × AllFree changes

abbrev pub ArePaths : List Change → Type 0
ArePaths [] = Unit {0}
ArePaths (change ∷ changes) = IsPathText change.0 × ArePaths changes

-- each path is one, stands once and in order, and is neither the gate's nor the journal's
pub record IsBatch (changes : List Change) : Type 0 where
  pub paths : ArePaths changes
  pub rise : Rises [] changes
  pub free : AllFree changes
