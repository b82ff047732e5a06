use Rattle.std.proofs.Common.{◌≡◌, ◌≤◌, ◌+◌, ◌++◌, length, take, drop}
use Rattle.journal_text.proofs.parts.word.Given as goal

abbrev pub invariant-loop-i : goal.invariant-loop-i
invariant-loop-i l = record {
  place : l.at + l.i ≤ length l.bytes;
  same : drop l.at l.bytes ≡ take l.i l.word ++ drop (l.at + l.i) l.bytes;
}
