use Rattle.std.proofs.Common.{◌≡◌, ℕ, ◌<◌, true, get_or}
use Rattle.java_lex.specs.Blanks.{is_white}
use Rattle.java_lex.proofs.blank.white_size.Given as goal

abbrev pub invariant-loop-at : goal.invariant-loop-at
invariant-loop-at l = (k : ℕ) → k < l.at → is_white (get_or l.text k 0) ≡ true
