use Rattle.rw_grammar.specs.TreeLaws.{one_tree}
use Rattle.rw_grammar.proofs.laws.a_rule_derives_one_tree.Goals as goal

pub returns : goal.returns
returns c = one_tree
