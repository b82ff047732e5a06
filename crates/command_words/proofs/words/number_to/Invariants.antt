use Rattle.std.proofs.Common.{◌≡◌}
use Rattle.command_words.specs.Words.{number_to}
use Rattle.command_words.proofs.words.number_to.Given as goal

abbrev pub invariant-loop-number : goal.invariant-loop-number
invariant-loop-number l = number_to l.number l.word ≡ number_to l.most l.word

abbrev pub decreases-loop-number : goal.decreases-loop-number
decreases-loop-number l = l.number
