use Rattle.std.proofs.Common.{◌≡◌, ◌++◌, length}
use Rattle.rw_grammar.specs.Words.{written_all, SpellSome}
use Rattle.rw_grammar.proofs.codes.words_of.Given as goal

abbrev pub invariant-loop-rest : goal.invariant-loop-rest
invariant-loop-rest l = record {
  are : l.fn.codes ≡ written_all l.words ++ l.rest;
  spell : SpellSome l.rest;
}

abbrev pub decreases-loop-rest : goal.decreases-loop-rest
decreases-loop-rest l = length l.rest
