use Rattle.std.proofs.Common.{◌≡◌, ℕ, ◌<◌, true, get_or}
use Rattle.yaml_lex.specs.Scalars.{in_name}
use Rattle.yaml_lex.proofs.scalars.letters_size.Given as goal

abbrev pub invariant-loop-at : goal.invariant-loop-at
invariant-loop-at l = (k : ℕ) → k < l.at → in_name (get_or l.text k 0) ≡ true
