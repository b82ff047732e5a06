use Rattle.std.proofs.Common.{◌≡◌, ◌+◌, ◌++◌, length, take, drop, false}
use Rattle.conf_recipes.specs.PathMarks.{byte_here, byte_carries, byte_last}
use Rattle.conf_recipes.proofs.Marks.{marks_from}
use Rattle.conf_recipes.proofs.path_patterns.mark_bytes.Given as goal

abbrev pub invariant-loop-i : goal.invariant-loop-i
invariant-loop-i l = record {
  long : length l.marks ≡ length l.text + 1;
  same : take l.i l.marks ++ marks_from (byte_here l.p) (byte_carries l.p) (byte_last l.p) l.carried (drop l.i l.marks) (drop l.i l.text)
      ≡ marks_from (byte_here l.p) (byte_carries l.p) (byte_last l.p) false l.initial.marks l.text;
}
