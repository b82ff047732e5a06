use Rattle.std.proofs.Common.{◌≡◌, false, take}
use Rattle.std.specs.List.{list_any}
use Rattle.recipe_yaml.specs.Leading.{entry_leads}
use Rattle.recipe_yaml.proofs.leading.any_leads.Given as goal

abbrev pub invariant-loop-entry : goal.invariant-loop-entry
invariant-loop-entry l = list_any (entry_leads l.book l.column) (take l.entry-index l.entries) ≡ false
