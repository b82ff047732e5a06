use Rattle.std.proofs.Common.{◌∙◌, sym, false, arith}
use Rattle.recipe_yaml.specs.Leaves.{taken_as}
use Rattle.recipe_yaml.specs.declared.leaf_name.OptionName.TheVariants as name
use Rattle.recipe_yaml.specs.declared.leaf_name.ValueKind.TheVariants as value
use Rattle.recipe_yaml.proofs.Options.{taken_here}
use Rattle.recipe_yaml.proofs.leaf.taken_as.Goals as goal

pub returns-then-has_key : goal.returns-then-has_key
returns-then-has_key c =
    taken_here c.args.taken.now c.args.key.now c.loop-option.option-index (taken_as c.args.taken.now c.args.key.now) (record { name = name.OldPropertyKey; kind = value.Text; is_required = false })
    (omega arith) c.loop-option.invariant (sym c.has_key.ensures ∙ c.if-has_key.true)
