use Rattle.std.proofs.Common.{ap, sym, ◌∙◌}
use Rattle.std.specs.Prelude.{is_some}
use Rattle.properties_tree.specs.Entries.{properties_of}
use Rattle.conf_recipes.specs.PropertiesRecipes.{has_entry}
use Rattle.conf_recipes.proofs.Lacking.{entry_told}
use Rattle.conf_recipes.proofs.renaming.renamed_in_properties.Goals as goal

pub returns-in_default-clause-edits : goal.returns-in_default-clause-edits
returns-in_default-clause-edits c =
    ap is_some (sym c.in_default.is)
    ∙ (entry_told c.as_slice-key.result.now c.args.bytes.now c.in_ok-first.field-0 c.in_ok-first.ensures
    ∙ ap (λ k. has_entry k (properties_of c.args.bytes.now).entries) c.as_slice-key.ensures)

pub returns-clause-edits : goal.returns-clause-edits
returns-clause-edits c =
    ap is_some (sym c.in-Some.is)
    ∙ (entry_told c.as_slice-key.result.now c.args.bytes.now c.in_ok-first.field-0 c.in_ok-first.ensures
    ∙ ap (λ k. has_entry k (properties_of c.args.bytes.now).entries) c.as_slice-key.ensures)
