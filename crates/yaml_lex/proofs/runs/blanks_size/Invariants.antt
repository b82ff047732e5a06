use Rattle.std.proofs.Common.{◌≡◌, ℕ, ◌<◌, true, get_or}
use Rattle.yaml_lex.specs.Characters.{is_blank}
use Rattle.yaml_lex.proofs.runs.blanks_size.Given as goal

abbrev pub invariant-loop-at : goal.invariant-loop-at
invariant-loop-at l = (k : ℕ) → k < l.at → is_blank (get_or l.text k 0) ≡ true
