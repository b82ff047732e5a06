-- What files read as, from what the readers ensure.
use Rattle.std.proofs.Common.{◌≡◌, ℕ, ◌<◌, ◌≤◌, arith, true, false, List, length, Option, Some, None, Result, Ok, Err, refl, sym, ap, ◌∙◌, nat_lt}
use Rattle.std.specs.Prelude.{IfOk}
use Rattle.std.proofs.lemmas.Bool.Decides.{nat_tests}
use Rattle.rw_base.specs.Arena.{Arena}
use Rattle.rw_base.specs.declared.leaves.TheConstants.{MOST_BYTES}
use Rattle.rw_base.specs.declared.place.Refused.{Refused}
use Rattle.rw_base.specs.declared.place.ReadFault.{ReadFault}
use Rattle.rw_base.specs.declared.place.ReadFault.TheVariants as fault
use Rattle.kept_files.specs.declared.reading.Reading.{Reading}
use Rattle.kept_files.specs.declared.reading.Reading.TheVariants as reading
use Rattle.properties_tree.specs.Layout.{tree_of}
use Rattle.properties_tree.specs.Refusal.{too_large}
use Rattle.java_lex.specs.Laws.{AreBytes}
use Rattle.java_reader.specs.declared.read.TheConstants.{UNIT}
use Rattle.java_reader.specs.Reading.{IsJavaRead, AreReadSteps}
use Rattle.yaml_tree.specs.Reading.{IsYamlOutcome}
use Rattle.kept_files.specs.declared.kind.FileKind.{FileKind}
use Rattle.kept_files.specs.declared.kind.FileKind.TheVariants.{Java, Yaml, Properties, Other}
use Rattle.kept_files.specs.Kinds.{kind_of}
use Rattle.kept_files.specs.Readings.{java_reading, yaml_reading, properties_reading, IsReadAs, IsReading, AreSteps, Reads, AreReadings, AreBytesOrNone}

lt_true : (a b : ℕ) → a < b → nat_lt a b ≡ true
lt_true a b h = grind (arith, nat_tests)

lt_false : (a b : ℕ) → b ≤ a → nat_lt a b ≡ false
lt_false a b h = grind (arith, nat_tests)

pub reads_small : (bytes : List ℕ) → length bytes ≤ MOST_BYTES → properties_reading bytes ≡ reading.Properties (tree_of bytes)
unfolding properties_reading
reads_small bytes h = rw (lt_false MOST_BYTES (length bytes) h) refl

pub reads_large : (bytes : List ℕ) → MOST_BYTES < length bytes → properties_reading bytes ≡ reading.Refused (too_large bytes)
unfolding properties_reading
reads_large bytes h = rw (lt_true MOST_BYTES (length bytes) h) refl

pub ruleset properties = (reads_small, reads_large)

pub java_tree : (bytes : List ℕ) (t : Arena) → IsJavaRead UNIT bytes (Ok t) → IsReadAs Java bytes (reading.Java t)
unfolding IsReadAs
java_tree bytes t h = (Ok t, (h, refl))

pub java_refused : (bytes : List ℕ) (r : Refused) → IsJavaRead UNIT bytes (Err r) → IsReadAs Java bytes (reading.Refused r)
unfolding IsReadAs
java_refused bytes r h = (Err r, (h, refl))

pub yaml_read : (bytes : List ℕ) (t : Arena) → IsYamlOutcome bytes (Ok t) → IsReadAs Yaml bytes (reading.Yaml t)
unfolding IsReadAs
yaml_read bytes t h = (Ok t, (h, refl))

pub yaml_refused : (bytes : List ℕ) (r : Refused) → IsYamlOutcome bytes (Err r) → IsReadAs Yaml bytes (reading.Refused r)
unfolding IsReadAs
yaml_refused bytes r h = (Err r, (h, refl))

pub to_steps : (bytes : List ℕ) (old new : ℕ) → AreReadSteps bytes old new → AreSteps Java bytes old new
unfolding AreSteps
to_steps bytes old new h = h

pub from_steps : (bytes : List ℕ) (old new : ℕ) → AreSteps Java bytes old new → AreReadSteps bytes old new
unfolding AreSteps
from_steps bytes old new h = h

pub ruleset java = (java_tree, java_refused, to_steps, from_steps)

pub by_kind : (k : FileKind) (path bytes : List ℕ) (r : Reading) → kind_of path ≡ k → IsReadAs k bytes r → IsReading path (Some bytes) r
unfolding IsReading
by_kind k path bytes r e h = rw e h

pub properties_file : (path bytes : List ℕ) (r : Reading) → kind_of path ≡ Properties → r ≡ properties_reading bytes → IsReading path (Some bytes) r
unfolding IsReading IsReadAs
properties_file path bytes r e h = rw e h

pub other_file : (path bytes : List ℕ) → kind_of path ≡ Other → IsReading path (Some bytes) reading.Unread
unfolding IsReading IsReadAs
other_file path bytes e = rw e refl

pub same : (read : Reads) (path bytes : List ℕ) (r : Reading) → AreReadings read → AreBytes bytes → IsReading path (Some bytes) r → r ≡ read path (Some bytes)
unfolding AreReadings
same read path bytes r are b is = are path (Some bytes) r b is

pub no_steps : (k : FileKind) (bytes : List ℕ) (n : ℕ) → (k ≡ Java → ⊥) → AreSteps k bytes n n
unfolding AreSteps
no_steps Java bytes n ne = absurd (ne refl)
no_steps Yaml bytes n ne = refl
no_steps Properties bytes n ne = refl
no_steps Other bytes n ne = refl

pub most_steps : (k : FileKind) (bytes : List ℕ) (n most : ℕ) → (k ≡ Java → ⊥) → AreSteps k bytes n most → n ≤ most
unfolding AreSteps
most_steps Java bytes n most ne h = absurd (ne refl)
most_steps Yaml bytes n most ne h = omega (arith, h)
most_steps Properties bytes n most ne h = omega (arith, h)
most_steps Other bytes n most ne h = omega (arith, h)

pub ruleset files = (by_kind, properties_file, other_file, same, no_steps, most_steps)

-- a file reads as one thing, where this holds of Java
module _ (one_tree : (start : ℕ) (bytes : List ℕ) (a b : Result Arena Refused) → AreBytes bytes → IsJavaRead start bytes a → IsJavaRead start bytes b → a ≡ b)
    (one_document : (bytes : List ℕ) (a b : Result Arena Refused) → IsYamlOutcome bytes a → IsYamlOutcome bytes b → a ≡ b) where
  of_kind : (k : FileKind) (bytes : List ℕ) (a b : Reading) → AreBytes bytes → IsReadAs k bytes a → IsReadAs k bytes b → a ≡ b
  unfolding IsReadAs
  of_kind Java bytes a b are x y = x.1.1 ∙ ap java_reading (one_tree UNIT bytes x.0 y.0 are x.1.0 y.1.0) ∙ sym y.1.1
  of_kind Yaml bytes a b are x y = x.1.1 ∙ ap yaml_reading (one_document bytes x.0 y.0 x.1.0 y.1.0) ∙ sym y.1.1
  of_kind Properties bytes a b are x y = x ∙ sym y
  of_kind Other bytes a b are x y = x ∙ sym y

  pub one : (path : List ℕ) (bytes : Option (List ℕ)) (a b : Reading) → AreBytesOrNone bytes → IsReading path bytes a → IsReading path bytes b → a ≡ b
  unfolding IsReading
  one path None a b are x y = x ∙ sym y
  one path (Some bytes) a b are x y = of_kind (kind_of path) bytes a b are x y

-- an answer is of one kind
pub ok_apart : {A E : Type 0} (r : Result A E) (a : A) (e : E) → r ≡ Ok a → r ≡ Err e → ⊥
ok_apart r a e p q = absurd (let bad : Ok a ≡ Err e = sym p ∙ q in cc)

pub refused_apart : {A : Type 0} (r : Result A ReadFault) (why : Refused) → r ≡ Err (fault.Refused why) → r ≡ Err fault.NoMemory → ⊥
refused_apart r why p q = absurd (let bad : Err (fault.Refused why) ≡ Err fault.NoMemory = sym p ∙ q in cc)

-- what was read is what the function says
pub java_same : {E : Type 0} (read : Reads) → AreReadings read → (path bytes : List ℕ) (r : Result Reading E) → AreBytes bytes → kind_of path ≡ Java
    → IfOk r (λ r. IsReadAs Java bytes r) → IfOk r (λ r. r ≡ read path (Some bytes))
java_same read are path bytes (Ok r) b k h = same read path bytes r are b (by_kind Java path bytes r k h)
java_same read are path bytes (Err e) b k h = tt

pub properties_same : {E : Type 0} (read : Reads) → AreReadings read → (path bytes : List ℕ) (r : Result Reading E) → AreBytes bytes → kind_of path ≡ Properties
    → IfOk r (λ r. r ≡ properties_reading bytes) → IfOk r (λ r. r ≡ read path (Some bytes))
properties_same read are path bytes (Ok r) b k h = same read path bytes r are b (properties_file path bytes r k h)
properties_same read are path bytes (Err e) b k h = tt

pub yaml_same : {E : Type 0} (read : Reads) → AreReadings read → (path bytes : List ℕ) (r : Result Reading E) → AreBytes bytes → kind_of path ≡ Yaml
    → IfOk r (λ r. IsReadAs Yaml bytes r) → IfOk r (λ r. r ≡ read path (Some bytes))
yaml_same read are path bytes (Ok r) b k h = same read path bytes r are b (by_kind Yaml path bytes r k h)
yaml_same read are path bytes (Err e) b k h = tt
