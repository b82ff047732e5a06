-- What `check` tells of a repository.
use Rattle.std.specs.Prelude.{ℕ, Bool, false, ◌||◌, List, [], ◌∷◌, ◌++◌, decimal, codes}
use Rattle.std.specs.Prelude.{Option, None, Some, is_some, if◌then◌else◌}
use Rattle.std.specs.Option.{option_map}
use Rattle.std.specs.FinMap as map
use Rattle.rw_base.specs.declared.place.Cause.{Cause}
use Rattle.rw_base.specs.declared.place.Cause.TheVariants.{NotUtf8, BadLeaf, Unexpected, Unfinished, TooLarge, TooDeep}
use Rattle.rw_base.specs.declared.place.Refused.{Refused}
use Rattle.kept_files.specs.declared.reading.Reading.{Reading}
use Rattle.kept_files.specs.declared.reading.Reading.TheVariants as reading
use Rattle.rw_host.specs.Files.{Files, first_bytes}
use Rattle.kept_files.specs.Readings.{Reads}
use Rattle.rewrite_cli.specs.declared.sources.TheConstants.{MOST_READ}
use Rattle.rewrite_cli.specs.Sources.{count_read, is_counted}
use Rattle.rewrite_cli.specs.Stubs.{is_stub, stub_reading}

-- what the file at a path with these bytes reads as
abbrev pub reading_of : Reads → List ℕ → Option (List ℕ) → Reading
reading_of read path bytes = if is_stub path then stub_reading read bytes else read path bytes

-- and the one that stands there
abbrev pub reading_at : Reads → Files → List ℕ → Reading
reading_at read files path = reading_of read path (option_map (first_bytes MOST_READ) (map.get files path))

abbrev pub name_of : Cause → List ℕ
name_of NotUtf8 = codes "NotUtf8"
name_of BadLeaf = codes "BadLeaf"
name_of Unexpected = codes "Unexpected"
name_of Unfinished = codes "Unfinished"
name_of TooLarge = codes "TooLarge"
name_of TooDeep = codes "TooDeep"

-- the line of a file that is refused: its path, the line and the column, and the cause
unfoldable pub refused_line : List ℕ → Refused → List ℕ
refused_line path r =
    codes "refused " ++ path ++ codes " " ++ decimal r.place.line ++ codes ":" ++ decimal r.place.column ++ codes " "
    ++ name_of r.cause ++ codes "\n"

-- why a file is refused, by what it reads as, and what is told of that
abbrev pub refusal_in : Reading → Option Refused
refusal_in (reading.Refused r) = Some r
refusal_in _ = None

abbrev pub line_of : List ℕ → Option Refused → List ℕ
line_of path None = []
line_of path (Some r) = refused_line path r

-- why the file at a path is refused; one that is neither read nor a stub is never
unfoldable pub refusal_at : Reads → Files → List ℕ → Option Refused
refusal_at read files path = if is_counted path then refusal_in (reading_at read files path) else None

-- of all files at these paths
abbrev pub lines : Reads → Files → List (List ℕ) → List ℕ
lines read files [] = []
lines read files (path ∷ paths) = line_of path (refusal_at read files path) ++ lines read files paths

abbrev pub any_refused : Reads → Files → List (List ℕ) → Bool
any_refused read files [] = false
any_refused read files (path ∷ paths) = is_some (refusal_at read files path) || any_refused read files paths

-- the line of the number of files that are read
unfoldable pub count_line : ℕ → List ℕ
count_line n = codes "files " ++ decimal n ++ codes "\n"

-- the whole text: how many files are read, and a line for each that is refused, in the order of paths
unfoldable pub check_text : Reads → Files → List ℕ
check_text read files = count_line (count_read (map.keys files)) ++ lines read files (map.keys files)
