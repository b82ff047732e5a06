-- What a file reads as, by its path and its bytes.
use Rattle.std.specs.Prelude.{◌≡◌, ℕ, nat_lt, List, length, Option, Some, None, Result, Ok, Err, if◌then◌else◌}
use Rattle.rw_base.specs.Arena.{Arena, end_of}
use Rattle.rw_base.specs.declared.leaves.TheConstants.{MOST_BYTES}
use Rattle.rw_base.specs.declared.place.Refused.{Refused}
use Rattle.kept_files.specs.declared.reading.Reading.{Reading}
use Rattle.kept_files.specs.declared.reading.Reading.TheVariants as reading
use Rattle.properties_tree.specs.Layout.{tree_of}
use Rattle.properties_tree.specs.Refusal.{too_large}
use Rattle.java_lex.specs.Laws.{AreBytes}
use Rattle.java_reader.specs.declared.read.TheConstants.{UNIT}
use Rattle.java_reader.specs.Reading.{IsJavaRead, AreReadSteps}
use Rattle.yaml_tree.specs.Reading.{IsYamlOutcome}
use Rattle.kept_files.specs.declared.kind.FileKind.{FileKind}
use Rattle.kept_files.specs.declared.kind.FileKind.TheVariants.{Java, Yaml, Properties, Other}
use Rattle.kept_files.specs.Kinds.{kind_of}

-- what is kept of a reading of Java
abbrev pub java_reading : Result Arena Refused → Reading
java_reading (Ok tree) = reading.Java tree
java_reading (Err refused) = reading.Refused refused

-- and of one of YAML
abbrev pub yaml_reading : Result Arena Refused → Reading
yaml_reading (Ok tree) = reading.Yaml tree
yaml_reading (Err refused) = reading.Refused refused

-- what a properties file reads as
unfoldable pub properties_reading : List ℕ → Reading
properties_reading bytes =
    if nat_lt MOST_BYTES (length bytes) then reading.Refused (too_large bytes) else reading.Properties (tree_of bytes)

-- what the bytes of a file of a kind read as
unfoldable pub IsReadAs : FileKind → List ℕ → Reading → Type 0
IsReadAs Java bytes r = (outcome : Result Arena Refused) × (IsJavaRead UNIT bytes outcome × (r ≡ java_reading outcome))
IsReadAs Yaml bytes r = (outcome : Result Arena Refused) × (IsYamlOutcome bytes outcome × (r ≡ yaml_reading outcome))
IsReadAs Properties bytes r = r ≡ properties_reading bytes
IsReadAs Other bytes r = r ≡ reading.Unread

-- What a file reads as. Without bytes it isn't read.
unfoldable pub IsReading : List ℕ → Option (List ℕ) → Reading → Type 0
IsReading path None r = r ≡ reading.Unread
IsReading path (Some bytes) r = IsReadAs (kind_of path) bytes r

-- the steps of reading a file of a kind lead from one number to another: one for each leaf of Java, and else none
unfoldable pub AreSteps : FileKind → List ℕ → ℕ → ℕ → Type 0
AreSteps Java bytes old new = AreReadSteps bytes old new
AreSteps _ bytes old new = new ≡ old

-- a tree that was read ends where the bytes end
abbrev pub EndsWith : List ℕ → Reading → Type 0
EndsWith bytes (reading.Java t) = end_of t ≡ length bytes
EndsWith bytes (reading.Yaml t) = end_of t ≡ length bytes
EndsWith bytes (reading.Properties t) = end_of t ≡ length bytes
EndsWith bytes _ = Unit {0}

-- ---- what a file reads as, as a function

abbrev pub Reads : Type 0
Reads = List ℕ → Option (List ℕ) → Reading

abbrev pub AreBytesOrNone : Option (List ℕ) → Type 0
AreBytesOrNone None = Unit {0}
AreBytesOrNone (Some bytes) = AreBytes bytes

-- The function gives each file what it reads as. There is such a function, since a file reads as one thing.
unfoldable pub AreReadings : Reads → Type 0
AreReadings read =
    (path : List ℕ) (bytes : Option (List ℕ)) (r : Reading) → AreBytesOrNone bytes → IsReading path bytes r
    → r ≡ read path bytes
