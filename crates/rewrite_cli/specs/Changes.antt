-- What two states differ in, and the batch of changes that is written for it.
use Rattle.std.specs.Prelude.{ℕ, Bool, true, false, ◌||◌, List, [], ◌∷◌, ◌++◌, map as map_list}
use Rattle.std.specs.Prelude.{Option, None, Some, if◌then◌else◌}
use Rattle.std.specs.Str.{bytes_eq}
use Rattle.std.specs.Ordering.{nat_cmp, match_ordering}
use Rattle.std.specs.Cmp.Lexicographic.{slice_cmp}
use Rattle.journal_text.specs.Changes.{Change as Written, gate, journal}
use Rattle.kept_files.specs.States.{State}
use Rattle.kept_files.specs.declared.file.KeptFile.{KeptFile}
use Rattle.scheduler.specs.Runs.{same_bytes}
use Rattle.rewrite_cli.specs.Histories.{history_path}
use Rattle.rewrite_cli.specs.declared.changes.Change.{Change}
use Rattle.rewrite_cli.specs.declared.changes.Change.TheVariants.{Created, Changed, Removed}

-- ---- from a state to a later one, in the order of paths

abbrev pub changed_to : KeptFile → KeptFile → List Change
changed_to f g = if same_bytes f.bytes g.bytes then [] else Changed g ∷ []

-- What comes of the later files where f is the first of the earlier ones: a path that only the earlier ones have was
-- removed, one that only the later ones have was created. `others` says what comes of those behind f.
abbrev pub against : KeptFile → (State → List Change) → State → List Change
against f others [] = Removed f ∷ others []
against f others (g ∷ gs) = match_ordering (slice_cmp nat_cmp f.path g.path)
    (Removed f ∷ others (g ∷ gs)) (changed_to f g ++ others gs) (Created g ∷ against f others gs)

unfoldable pub changes : State → State → List Change
changes [] gs = map_list Created gs
changes (f ∷ fs) gs = against f (changes fs) gs

-- ---- what is written

-- the gate, the journal and the history are no files of recipes
abbrev pub is_kept_out : List ℕ → Bool
is_kept_out path = bytes_eq path gate || bytes_eq path journal || bytes_eq path history_path

abbrev pub file_of : Change → KeptFile
file_of (Created f) = f
file_of (Changed f) = f
file_of (Removed f) = f

abbrev pub is_removal : Change → Bool
is_removal (Removed f) = true
is_removal _ = false

-- Bytes are put at the path of a file, or the file there goes. Where the bytes aren't known it stays.
abbrev pub put_at : List ℕ → Option (List ℕ) → List Written
put_at path None = []
put_at path (Some bytes) = (path, Some bytes) ∷ []

abbrev pub written_at : KeptFile → Bool → List Written
written_at f removed = if removed then (f.path, None) ∷ [] else put_at f.path f.bytes

unfoldable pub kept_for : Change → List Written
kept_for c = if is_kept_out (file_of c).path then [] else written_at (file_of c) (is_removal c)

-- what is written for these changes, in the order of paths
unfoldable pub batch_of : List Change → List Written
batch_of [] = []
batch_of (c ∷ cs) = kept_for c ++ batch_of cs

-- one more among them, before the first whose path isn't smaller
unfoldable pub batch_with : Written → List Written → List Written
batch_with w [] = w ∷ []
batch_with w (x ∷ xs) = match_ordering (slice_cmp nat_cmp x.0 w.0) (x ∷ batch_with w xs) (w ∷ x ∷ xs) (w ∷ x ∷ xs)
