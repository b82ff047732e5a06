use Rattle.std.proofs.Common.{◌≡◌, ◌+◌, drop}
use Rattle.yaml_lex.specs.BlockScalars.{indentation}
use Rattle.yaml_lex.proofs.runs.indentation.Given as goal

abbrev pub invariant-loop-at : goal.invariant-loop-at
invariant-loop-at l = indentation (drop l.at l.text) + l.at ≡ indentation l.text
