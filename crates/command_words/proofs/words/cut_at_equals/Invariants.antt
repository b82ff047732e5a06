use Rattle.std.proofs.Common.{◌≡◌, take, drop}
use Rattle.command_words.specs.Words.{cut_at_equals}
use Rattle.command_words.proofs.WordSteps.{behind}
use Rattle.command_words.proofs.words.cut_at_equals.Given as goal

abbrev pub invariant-loop-at : goal.invariant-loop-at
invariant-loop-at l = behind (take l.at l.word) (cut_at_equals (drop l.at l.word)) ≡ cut_at_equals l.word
