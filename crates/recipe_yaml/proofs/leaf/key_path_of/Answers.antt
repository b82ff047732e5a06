use Rattle.std.proofs.Common.{◌≡◌, refl, sym, ◌∙◌}
use Rattle.recipe_yaml.proofs.Options.{spells, spells_none}
use Rattle.recipe_yaml.proofs.leaf.key_path_of.Goals as goal

pub returns-in-Ok : goal.returns-in-Ok
returns-in-Ok c paths are = spells paths are c.args.text.now c.in-Ok.path c.in-Ok.ensures.path

pub returns-in-Err-At : goal.returns-in-Err-At
returns-in-Err-At c paths are = spells_none paths are c.args.text.now c.in-Err-At.field-0-0 (c.in-Err-At.ensures.fault c.in-Err-At.field-0-0 (cc))
