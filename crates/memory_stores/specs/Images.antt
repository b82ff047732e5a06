-- What crashes may leave of a store that keeps a record.
use Rattle.std.specs.Prelude.{◌≡◌, ◌⊎◌, ℕ, ◌≤◌, Bool, false, List, [], ◌∷◌, map, length}
use Rattle.std.specs.FinMap as finmap
use Rattle.rw_host.specs.Files.{Files}
use Rattle.memory_stores.specs.States.{States, is_changed_since, now_of}

-- One moment of a store: what reads give, and which paths were written or removed since the last sync.
pub record Moment : Type 0 where
  pub files : Files
  pub is_unsynced : List ℕ → Bool

-- A crash then leaves any bytes or none at an unsynced path, and at the others what reads give.
abbrev pub IsImage : Moment → Files → Type 0
IsImage m c = (path : List ℕ) → m.is_unsynced path ≡ false → finmap.get c path ≡ finmap.get m.files path

-- A crash at one of these moments from that number on may have left this. The last moment comes first, and the number
-- of each is how many were before it.
abbrev pub LeftBy : List Moment → ℕ → Files → Type 0
LeftBy [] t c = ⊥
LeftBy (m ∷ ms) t c = (t ≤ length ms × IsImage m c) ⊎ LeftBy ms t c

-- what was known at one moment, and which call was the last sync before it
abbrev pub Stage : Type 0
Stage = States × ℕ

-- where a path is unsynced that was written or removed since that sync
abbrev pub moment_of : Stage → Moment
moment_of m = record {
  files = now_of m.0;
  is_unsynced = λ path. is_changed_since m.1 (finmap.get m.0 path);
}

abbrev pub moments : List Stage → List Moment
moments stages = map moment_of stages
