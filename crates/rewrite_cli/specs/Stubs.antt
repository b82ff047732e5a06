-- Stubs: Java texts in a folder of the tool's own, which tell of classes whose source isn't in the repository.
use Rattle.std.specs.Prelude.{ℕ, ◌==◌, Bool, not, ◌&&◌, nat_lt, List, [], ◌∷◌, ◌++◌, length, take, drop, codes}
use Rattle.std.specs.Prelude.{Option, None, Some, if◌then◌else◌}
use Rattle.std.specs.List.{list_any}
use Rattle.std.specs.Str.{bytes_eq}
use Rattle.std.specs.FinMap as map
use Rattle.rw_host.specs.Files.{Files, first_bytes}
use Rattle.kept_files.specs.Kinds.{ends_with}
use Rattle.kept_files.specs.Readings.{Reads}
use Rattle.kept_files.specs.declared.reading.Reading.{Reading}
use Rattle.rewrite_cli.specs.declared.sources.TheConstants.{MOST_READ}
use Rattle.rewrite_cli.specs.declared.stubs.Stub.{Stub}

-- the folder in which stubs stand
abbrev pub classpath : List ℕ
classpath = codes ".rewrite/classpath/"

-- one or more characters other than `/`, and then `.java`
abbrev pub is_stub_name : List ℕ → Bool
is_stub_name name = nat_lt 5 (length name) && (ends_with name (codes ".java") && not (list_any (λ b. b == 47) name))

-- whether a path is that of a stub: such a name, in that folder
unfoldable pub is_stub : List ℕ → Bool
is_stub path =
    bytes_eq (take (length classpath) path) classpath && is_stub_name (drop (length classpath) path)

-- What a stub of these bytes reads as: what a Java file of them does. The path of a stub itself is that of no file that
-- is read, since a part of it begins with a dot, so that of some Java file stands here.
abbrev pub stub_reading : Reads → Option (List ℕ) → Reading
stub_reading read bytes = read (codes "Stub.java") bytes

-- the stub at a path, with the bytes that are read of it
abbrev pub stub_with : List ℕ → Option (List ℕ) → List Stub
stub_with path None = []
stub_with path (Some bytes) = record { path = path; bytes = first_bytes MOST_READ bytes } ∷ []

unfoldable pub stub_at : Files → List ℕ → List Stub
stub_at files path = if is_stub path then stub_with path (map.get files path) else []

-- those at these paths
unfoldable pub stubs_at : Files → List (List ℕ) → List Stub
stubs_at files [] = []
stubs_at files (path ∷ paths) = stub_at files path ++ stubs_at files paths

-- all stubs, in the order of their paths
unfoldable pub stubs_of : Files → List Stub
stubs_of files = stubs_at files (map.keys files)
