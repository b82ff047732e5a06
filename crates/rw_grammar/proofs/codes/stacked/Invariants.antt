use Rattle.std.proofs.Common.{◌≡◌, ◌++◌, length}
use Rattle.std.specs.Prelude.{reverse}
use Rattle.rw_grammar.specs.Codes.{codes_of_all}
use Rattle.rw_grammar.specs.Words.{written_all, AreStacked}
use Rattle.rw_grammar.proofs.codes.stacked.Given as goal

abbrev pub invariant-loop-word : goal.invariant-loop-word
invariant-loop-word l = record {
  are : written_all l.fn.words ≡ written_all l.words ++ codes_of_all (reverse l.stack);
  stacked : AreStacked (codes_of_all (reverse l.stack)) l.stack;
}

abbrev pub decreases-loop-word : goal.decreases-loop-word
decreases-loop-word l = length l.words
