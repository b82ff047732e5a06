use Rattle.std.proofs.Common.{sym, ◌∙◌}
use Rattle.properties_tree.proofs.Absent.{searched}
use Rattle.properties_tree.proofs.keys.may_stand.Goals as goal

pub returns-else-is_some : goal.returns-else-is_some
returns-else-is_some c =
    λ none. searched c.args.key.now c.args.text.now c.find.result c.contains.result (sym c.is_some.ensures ∙ c.if-is_some.false) c.find.ensures c.contains.ensures.value none
