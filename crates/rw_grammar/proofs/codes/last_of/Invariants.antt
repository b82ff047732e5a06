use Rattle.std.proofs.Common.{◌≡◌, ◌+◌, ◌++◌, length}
use Rattle.std.specs.Prelude.{reverse}
use Rattle.rw_grammar.proofs.codes.last_of.Given as goal

abbrev pub invariant-loop : goal.invariant-loop
invariant-loop l = record {
  taken : reverse l.fn.stack ≡ l.parts ++ reverse l.stack;
  count : length l.parts ≡ l.counter;
  left : length l.stack + l.counter ≡ length l.fn.stack;
}
