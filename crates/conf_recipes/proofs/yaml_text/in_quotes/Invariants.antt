use Rattle.std.proofs.Common.{◌≡◌, ◌∷◌, ◌++◌, drop}
use Rattle.yaml_texts.specs.Spelled.{doubled}
use Rattle.conf_recipes.proofs.yaml_text.in_quotes.Given as goal

abbrev pub invariant-loop-b : goal.invariant-loop-b
invariant-loop-b l = 39 ∷ doubled l.text ≡ l.out.items ++ doubled (drop l.b-index l.text)
