-- What comes of a YAML file: the leaves of yaml_lex, and the table of rules in src/table.rt, which is the grammar of
-- documents, block collections and flow collections (YAML 1.2, chapters 7.4, 8.2 and 9) in a subset.
use Rattle.std.specs.Prelude.{ℕ, List, Result}
use Rattle.rw_base.specs.declared.place.Refused.{Refused}
use Rattle.rw_base.specs.Arena.{Arena}
use Rattle.rw_grammar.specs.Parts.{Parts}
use Rattle.rw_grammar.specs.Codes.{parts_spelled}
use Rattle.rw_grammar.specs.Reading.{IsRead}
use Rattle.yaml_lex.specs.Leaves.{AreYamlLeaves}
use Rattle.yaml_tree.specs.declared.table.TheConstants.{YAML}
use Rattle.yaml_tree.specs.declared.reader.TheConstants.{STREAM}

-- the rules of the table
unfoldable pub yaml_rules : List Parts
yaml_rules = parts_spelled YAML

-- A file is cut into its leaves, and these are derived by the rule of a whole file: what comes of it is the tree, or
-- the place and the cause of a refusal, as rw_grammar says for any language.
abbrev pub IsYamlOutcome : List ℕ → Result Arena Refused → Type 0
IsYamlOutcome bytes outcome = IsRead (AreYamlLeaves bytes) yaml_rules STREAM bytes outcome
