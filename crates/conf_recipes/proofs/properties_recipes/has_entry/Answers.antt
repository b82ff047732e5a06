use Rattle.std.proofs.Common.{◌∙◌}
use Rattle.conf_recipes.proofs.Lacking.{entry_told}
use Rattle.conf_recipes.proofs.properties_recipes.has_entry.Goals as goal

pub returns : goal.returns
returns c =
    c.is_some.ensures ∙ entry_told c.args.key.now c.args.bytes.now c.in_ok-found.found c.in_ok-found.ensures
