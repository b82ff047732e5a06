-- The files of a repository with what they read as.
use Rattle.std.specs.Prelude.{◌≡◌, ℕ, ◌+◌, Bool, List, [], ◌∷◌, length, slice_index_or, Option, Some, None}
use Rattle.std.specs.List.{list_any}
use Rattle.std.specs.Str.{bytes_eq}
use Rattle.std.specs.Ordering.{nat_cmp, match_ordering}
use Rattle.std.specs.Cmp.Lexicographic.{slice_cmp}
use Rattle.std.specs.declared.cmp.Ordering.TheVariants.{Less}
use Rattle.rw_base.specs.Arena.{Arena, end_of}
use Rattle.kept_files.specs.declared.reading.Reading.{Reading}
use Rattle.kept_files.specs.declared.reading.Reading.TheVariants as reading
use Rattle.kept_files.specs.Readings.{IsReading}
use Rattle.kept_files.specs.declared.file.KeptFile.{KeptFile}

-- the files, in the order of their paths
abbrev pub State : Type 0
State = List KeptFile

-- ---- a file

-- the tree that was read
abbrev pub tree_in : Reading → Option Arena
tree_in (reading.Java t) = Some t
tree_in (reading.Yaml t) = Some t
tree_in (reading.Properties t) = Some t
tree_in _ = None

-- a tree that was read of these bytes ends where they end
abbrev pub EndsAt : Option Arena → Option (List ℕ) → Type 0
EndsAt (Some t) (Some bytes) = end_of t ≡ length bytes
EndsAt (Some t) None = ⊥
EndsAt None bytes = Unit {0}

-- a file is kept with what it reads as
pub record IsKept (f : KeptFile) : Type 0 where
  pub reading : IsReading f.path f.bytes f.reading
  pub whole : EndsAt (tree_in f.reading) f.bytes

-- ---- files in the order of their paths

-- a path stands before those of these files
abbrev pub IsBelow : List ℕ → State → Type 0
IsBelow path [] = Unit {0}
IsBelow path (f ∷ fs) = (slice_cmp nat_cmp path f.path ≡ Less) × IsBelow path fs

-- paths in order, each once, and each file with what it reads as
unfoldable pub AreKept : State → Type 0
AreKept [] = Unit {0}
AreKept (f ∷ fs) = IsKept f × (IsBelow f.path fs × AreKept fs)

abbrev pub no_file : KeptFile
no_file = record { path = []; bytes = None; reading = reading.Unread }

unfoldable pub file_at : State → ℕ → KeptFile
file_at files n = slice_index_or files n no_file

unfoldable pub has_path : State → List ℕ → Bool
has_path files path = list_any (λ f. bytes_eq f.path path) files

-- a file among others in the order of paths, in the place of one with its path
unfoldable pub put_file : KeptFile → State → State
put_file g [] = g ∷ []
put_file g (f ∷ fs) = match_ordering (slice_cmp nat_cmp g.path f.path) (g ∷ f ∷ fs) (g ∷ fs) (f ∷ put_file g fs)

-- ---- how many bytes files hold

abbrev pub held_by : KeptFile → ℕ
held_by f = elim f.bytes [ Some bytes ↦ length bytes | None ↦ 0 ]

unfoldable pub held_bytes : State → ℕ
held_bytes [] = 0
held_bytes (f ∷ fs) = held_by f + held_bytes fs

-- ---- accepted files of a kind: their tree and their bytes

unfoldable pub properties_in : KeptFile → Option (Arena × List ℕ)
properties_in f = elim f.reading [
  | reading.Properties t ↦ elim f.bytes [ Some bytes ↦ Some (t, bytes) | None ↦ None ]
  | _ ↦ None
]

unfoldable pub yaml_in : KeptFile → Option (Arena × List ℕ)
yaml_in f = elim f.reading [
  | reading.Yaml t ↦ elim f.bytes [ Some bytes ↦ Some (t, bytes) | None ↦ None ]
  | _ ↦ None
]
