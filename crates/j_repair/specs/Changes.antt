-- Files as they are given, and changes of kept ones.
use Rattle.std.specs.Prelude.{ℕ, List, [], ◌∷◌, Some, map, filter, not}
use Rattle.std.specs.Str.{bytes_eq}
use Rattle.rw_host.specs.declared.file.SourceFile.{SourceFile}
use Rattle.kept_files.specs.Readings.{Reads}
use Rattle.kept_files.specs.States.{State, put_file}
use Rattle.kept_files.specs.declared.file.KeptFile.{KeptFile}
use Rattle.j_repair.specs.declared.change.Change.{Change}
use Rattle.j_repair.specs.declared.change.Change.TheVariants as change

-- the paths of files
abbrev pub paths_of : List SourceFile → List (List ℕ)
paths_of files = map (λ s. s.path) files

-- a file with what it reads as
unfoldable pub file_of : Reads → SourceFile → KeptFile
file_of read s = record { path = s.path; bytes = s.bytes; reading = read s.path s.bytes }

-- files without that at a path
unfoldable pub without : List ℕ → State → State
without path files = filter (λ f. not (bytes_eq f.path path)) files

-- files with a change: a file is put anew, or goes
unfoldable pub changed : Reads → Change → State → State
changed read (change.Put path bytes) files =
    put_file (file_of read (record { path = path; bytes = Some bytes.items })) files
changed read (change.Remove path) files = without path files

-- files with these changes, one after another
unfoldable pub repaired : Reads → List Change → State → State
repaired read [] files = files
repaired read (c ∷ cs) files = repaired read cs (changed read c files)
