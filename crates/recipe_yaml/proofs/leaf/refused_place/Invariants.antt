use Rattle.std.proofs.Common.{◌≡◌, drop}
use Rattle.recipe_yaml.specs.KeyPathTexts.{KeyPathsOf, AreKeyPaths}
use Rattle.recipe_yaml.specs.Leaves.{refused_place}
use Rattle.recipe_yaml.proofs.leaf.refused_place.Given as goal

abbrev pub invariant-loop-option : goal.invariant-loop-option
invariant-loop-option l =
    (paths : KeyPathsOf) → AreKeyPaths paths → refused_place paths l.taken (drop l.option-index l.options) ≡ refused_place paths l.taken l.options
