use Rattle.std.proofs.Common.{◌≡◌, ℕ, ◌<◌, false, get_or}
use Rattle.java_lex.specs.Blanks.{is_line_end}
use Rattle.java_lex.proofs.blank.line_comment_size.Given as goal

abbrev pub invariant-loop-at : goal.invariant-loop-at
invariant-loop-at l = (k : ℕ) → k < l.at → is_line_end (get_or l.text k 0) ≡ false
