-- Which files of a repository are read, and how many bytes of them.
use Rattle.std.specs.Prelude.{ℕ, ◌+◌, Bool, true, false, ◌||◌, min, List, [], ◌∷◌, ◌++◌, length, Option, None, Some}
use Rattle.std.specs.Prelude.{if◌then◌else◌}
use Rattle.std.specs.FinMap as map
use Rattle.rw_host.specs.Files.{Files, first_bytes}
use Rattle.rw_host.specs.declared.file.SourceFile.{SourceFile}
use Rattle.kept_files.specs.declared.kind.FileKind.{FileKind}
use Rattle.kept_files.specs.declared.kind.FileKind.TheVariants.{Java, Yaml, Properties, Other}
use Rattle.kept_files.specs.Kinds.{is_source, kind_of}
use Rattle.rewrite_cli.specs.declared.sources.TheConstants.{MOST_READ}
use Rattle.rewrite_cli.specs.Stubs.{is_stub}

abbrev pub has_reader : FileKind → Bool
has_reader Java = true
has_reader Yaml = true
has_reader Properties = true
has_reader Other = false

-- whether the file at a path is read
unfoldable pub is_read : List ℕ → Bool
is_read path = has_reader (kind_of path)

-- how many of these paths are those of files that are read
abbrev pub count_read : List (List ℕ) → ℕ
count_read [] = 0
count_read (path ∷ paths) = (if is_read path then 1 else 0) + count_read paths

-- ---- what counts for the limits

-- whether a file counts: one that is read, or a stub
abbrev pub is_counted : List ℕ → Bool
is_counted path = is_read path || is_stub path

-- how many of these paths are those of files that count
abbrev pub count_counted : List (List ℕ) → ℕ
count_counted [] = 0
count_counted (path ∷ paths) = (if is_counted path then 1 else 0) + count_counted paths

-- How many bytes are read of the file at a path. A longer file counts as one of the most bytes that are read.
abbrev pub length_read : Option (List ℕ) → ℕ
length_read None = 0
length_read (Some bytes) = min MOST_READ (length bytes)

unfoldable pub bytes_at : Files → List ℕ → ℕ
bytes_at files path = if is_counted path then length_read (map.get files path) else 0

abbrev pub bytes_read : Files → List (List ℕ) → ℕ
bytes_read files [] = 0
bytes_read files (path ∷ paths) = bytes_at files path + bytes_read files paths

-- ---- the source files

-- the file at a path with these bytes, cut behind the most that are read; one that isn't there is none
abbrev pub with_bytes : List ℕ → Option (List ℕ) → List SourceFile
with_bytes path None = []
with_bytes path (Some bytes) = record { path = path; bytes = Some (first_bytes MOST_READ bytes) } ∷ []

-- The source file at a path, if it is that of one. A file that isn't read has no bytes.
unfoldable pub source_at : Files → List ℕ → List SourceFile
source_at files path =
    if is_read path then with_bytes path (map.get files path)
    else if is_source path then record { path = path; bytes = None } ∷ []
    else []

-- those at these paths
unfoldable pub sources_at : Files → List (List ℕ) → List SourceFile
sources_at files [] = []
sources_at files (path ∷ paths) = source_at files path ++ sources_at files paths

-- all source files, in the order of their paths
unfoldable pub sources_of : Files → List SourceFile
sources_of files = sources_at files (map.keys files)
