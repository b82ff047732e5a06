-- Laws over the definitions alone.
use Rattle.std.specs.Prelude.{◌≡◌, ◌↔◌, ℕ, true, List, Option, Result}
use Rattle.rw_base.specs.declared.tree.Leaf.{Leaf}
use Rattle.rw_base.specs.declared.leaves.Bad.{Bad}
use Rattle.rw_base.specs.declared.place.Refused.{Refused}
use Rattle.rw_base.specs.Arena.{Arena}
use Rattle.rw_base.specs.Trees.{Forest}
use Rattle.rw_grammar.specs.Parts.{Parts, rule_of}
use Rattle.rw_grammar.specs.Derivation.{DerivesTree}
use Rattle.rw_grammar.specs.Faults.{IsSound}
use Rattle.rw_grammar.specs.Viability.{StopsAt}
use Rattle.rw_grammar.specs.Reading.{IsOutcome}
use Rattle.rw_grammar.specs.declared.shape.Shape.{Shape}
use Rattle.rw_grammar.specs.Codes.{spelled, spells_rules}

-- By a table without a fault a rule derives one tree from a list of leaves.
abbrev pub OneTree : Type 0
OneTree =
    (rules : List Parts) → IsSound rules → (class : ℕ → ℕ) (start : ℕ) (ls : List ℕ) (t u : Forest) →
    DerivesTree (rule_of rules) class start ls t → DerivesTree (rule_of rules) class start ls u → t ≡ u

-- The leaf behind the longest viable front is one.
abbrev pub OneStop : Type 0
OneStop =
    (rules : ℕ → Parts) (class : ℕ → ℕ) (p : Parts) (ls : List ℕ) (a b : ℕ) →
    StopsAt rules class p ls a → StopsAt rules class p ls b → a ≡ b

-- By a table without a fault one thing comes of a text that is cut into these leaves.
abbrev pub OneOutcome : Type 0
OneOutcome =
    (rules : List Parts) → IsSound rules → (start : ℕ) (bytes : List ℕ) (leaves : List Leaf) (bad : Option Bad)
    (a b : Result Arena Refused) →
    IsOutcome rules start bytes leaves bad a → IsOutcome rules start bytes leaves bad b → a ≡ b

-- No other rules are spelled by the same codes.
abbrev pub OneSpelling : Type 0
OneSpelling = (a b : List Shape) → spelled a ≡ spelled b → a ≡ b

-- The test that `shapes` needs is met by the codes of rules, and by no others.
abbrev pub SpelledAreRead : Type 0
SpelledAreRead = (codes : List ℕ) → (spells_rules codes ≡ true) ↔ ((rules : List Shape) × (codes ≡ spelled rules))
