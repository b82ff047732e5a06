-- For which repository files stand.
--
-- The gate `.rewrite/gate` is open where its bytes are the one byte `1`. The changes of the journal are then still to
-- be made, and the files stand for what they are once these are made; else they stand for what they are. The paths of
-- gate and journal are left out.
use Rattle.std.specs.Prelude.{◌≡◌, ◌⊎◌, ℕ, Bool, true, false, ◌||◌, if◌then◌else◌, List, [], ◌∷◌, length}
use Rattle.std.specs.Prelude.{Option, None, Some, unwrap_or}
use Rattle.std.specs.Ordering.{nat_cmp, eq_by_cmp}
use Rattle.std.specs.Cmp.Lexicographic.{slice_cmp}
use Rattle.std.specs.Str.{bytes_eq}
use Rattle.std.specs.FinMap as map
use Rattle.rw_host.specs.Files.{Files}
use Rattle.journal_text.specs.Changes.{Change, gate, journal}
use Rattle.journal_text.specs.Text.{journal_text}
use Rattle.journal_text.specs.Reading.{HasNoReading, IsPlace, Reads}

-- the files with one change made
abbrev pub put : Files → List ℕ → Option (List ℕ) → Files
put files path None = map.remove files path
put files path (Some bytes) = map.insert files path bytes

-- the files with these changes made, the first of them first
abbrev pub applied : List Change → Files → Files
applied [] files = files
applied (change ∷ changes) files = applied changes (put files change.0 change.1)

-- whether a path is among those of the changes
abbrev pub touches : List Change → List ℕ → Bool
touches [] path = false
touches (change ∷ changes) path = eq_by_cmp (slice_cmp nat_cmp) path change.0 || touches changes path

-- the files are the same but at the paths of the changes
abbrev pub SameBut : List Change → Files → Files → Type 0
SameBut changes old new = (path : List ℕ) → touches changes path ≡ false → map.get new path ≡ map.get old path

-- whether a file has the one byte `1`
abbrev pub is_one : Option (List ℕ) → Bool
is_one None = false
is_one (Some bytes) = bytes_eq bytes (49 ∷ [])

abbrev pub is_open : Files → Bool
is_open files = is_one (map.get files gate)

-- the bytes of the journal; an absent one has none
abbrev pub journal_bytes : Files → List ℕ
journal_bytes files = unwrap_or (map.get files journal) []

-- the files without gate and journal
abbrev pub bare : Files → Files
bare files = map.remove (map.remove files gate) journal

-- The gate is open, and the journal reads as these changes.
pub record IsRead (files : Files) (changes : List Change) : Type 0 where
  pub opened : is_open files ≡ true
  pub reading : Reads (journal_bytes files) changes

-- The changes that are still to be made: those of the journal where the gate is open, and none where it is closed.
abbrev pub CallsFor : Files → List Change → Type 0
CallsFor files changes = (is_open files ≡ false × (changes ≡ [])) ⊎ IsRead files changes

pub record IsPending (files repository : Files) (changes : List Change) : Type 0 where
  pub read : IsRead files changes
  pub made : repository ≡ bare (applied changes files)

pub record IsSettled (files repository : Files) : Type 0 where
  pub closed : is_open files ≡ false
  pub same : repository ≡ bare files

abbrev pub StandsFor : Files → Files → Type 0
StandsFor files repository = IsSettled files repository ⊎ ((changes : List Change) × IsPending files repository changes)

-- they stand for the old files or for those with all changes made
abbrev pub OldOrNew : List Change → Files → Files → Type 0
OldOrNew changes start files = StandsFor files (bare start) ⊎ StandsFor files (bare (applied changes start))

-- the two stand for one repository
abbrev pub StandAlike : Files → Files → Type 0
StandAlike one other = (repository : Files) × (StandsFor one repository × StandsFor other repository)

-- what a commit leaves: the changes made, the journal there, no gate
abbrev pub committed : List Change → Files → Files
committed changes start =
    map.remove (applied changes (map.insert (map.insert start journal (journal_text changes)) gate (49 ∷ []))) gate

-- what a recovery leaves: the changes made and no gate where it was open, else what was there
abbrev pub finished : List Change → Files → Files
finished changes files = if is_open files then map.remove (applied changes files) gate else files

-- From these files a recovery made those, by so many changes.
pub record IsRecovered (old new : Files) (count : ℕ) (changes : List Change) : Type 0 where
  pub called : CallsFor old changes
  pub made : new ≡ finished changes old
  pub number : count ≡ length changes

-- The gate is open, and the journal has no reading: it stops being one at that place.
pub record IsDamaged (files : Files) (n : ℕ) : Type 0 where
  pub opened : is_open files ≡ true
  pub unread : HasNoReading (journal_bytes files)
  pub place : IsPlace (journal_bytes files) n
