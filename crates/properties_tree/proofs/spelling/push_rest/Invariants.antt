use Rattle.std.proofs.Common.{◌≡◌, ◌++◌, drop}
use Rattle.properties_tree.specs.Spelling.{spelled_rest}
use Rattle.properties_tree.proofs.spelling.push_rest.Given as goal

abbrev pub invariant-loop-b : goal.invariant-loop-b
invariant-loop-b l = l.initial.out.items ++ spelled_rest l.text ≡ l.out.items ++ spelled_rest (drop l.b-index l.text)
