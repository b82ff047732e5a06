use Rattle.std.proofs.Common.{◌≡◌, drop}
use Rattle.yaml_lex.specs.Characters.{is_key_end}
use Rattle.yaml_lex.proofs.scalars.is_key_end.Given as goal

abbrev pub invariant-loop-at : goal.invariant-loop-at
invariant-loop-at l = is_key_end (drop l.at l.text) ≡ is_key_end l.text
