use Rattle.std.proofs.Common.{◌≡◌, ◌++◌, drop}
use Rattle.properties_tree.specs.Spelling.{spelled_key}
use Rattle.properties_tree.proofs.spelling.spell_key.Given as goal

abbrev pub invariant-loop-b : goal.invariant-loop-b
invariant-loop-b l = spelled_key l.text ≡ l.out.items ++ spelled_key (drop l.b-index l.text)
