-- Reading Java: the text is cut into Java's leaves, which get their marks, and the rules of the table derive the tree.
use Rattle.std.specs.Prelude.{◌≡◌, ℕ, ◌+◌, ◌<◌, ◌≤◌, List, length, Option, Result}
use Rattle.rw_base.specs.declared.tree.Leaf.{Leaf}
use Rattle.rw_base.specs.declared.leaves.Bad.{Bad}
use Rattle.rw_base.specs.declared.leaves.TheConstants.{MOST_BYTES}
use Rattle.rw_base.specs.declared.place.Refused.{Refused}
use Rattle.rw_base.specs.Arena.{Arena}
use Rattle.rw_grammar.specs.Parts.{Parts}
use Rattle.rw_grammar.specs.Codes.{parts_spelled}
use Rattle.rw_grammar.specs.Reading.{IsRead}
use Rattle.java_lex.specs.Leaves.{AreJavaLeaves}
use Rattle.java_lex.specs.Segments.{AreMarked}
use Rattle.java_reader.specs.declared.table.TheConstants.{JAVA}

-- the rules of the table
unfoldable pub java_rules : List Parts
java_rules = parts_spelled JAVA

-- A text has these leaves with their marks, up to this bad place if it has one.
pub record IsJavaCut (bytes : List ℕ) (leaves : List Leaf) (bad : Option Bad) : Type 0 where
  pub plain : List Leaf
  pub are : AreJavaLeaves bytes plain bad
  pub marked : AreMarked plain leaves

-- What comes of a text by a rule of the table: its tree, or a place and a cause.
abbrev pub IsJavaRead : ℕ → List ℕ → Result Arena Refused → Type 0
IsJavaRead start bytes outcome = IsRead (IsJavaCut bytes) java_rules start bytes outcome

-- The steps of a reading lead from one number to another: one for each leaf, and none where the text is too large.
pub data AreReadSteps (bytes : List ℕ) (old new : ℕ) : Type 0 where
  none-taken : MOST_BYTES < length bytes → new ≡ old → AreReadSteps bytes old new
  one-each : (leaves : List Leaf) (bad : Option Bad) → length bytes ≤ MOST_BYTES → IsJavaCut bytes leaves bad
      → new ≡ old + length leaves → AreReadSteps bytes old new

-- A text is cut in one way.
abbrev pub CutsAreOne : List ℕ → Type 0
CutsAreOne bytes = (leaves others : List Leaf) (bad worse : Option Bad) → IsJavaCut bytes leaves bad
    → IsJavaCut bytes others worse → (leaves ≡ others) × (bad ≡ worse)
