use Rattle.std.proofs.Common.{◌≡◌, drop, ◌≤◌, length}
use Rattle.j_names.specs.Names.{behind_dot}
use Rattle.j_names.proofs.owners.last_start.Given as goal

abbrev pub invariant-loop-at : goal.invariant-loop-at
invariant-loop-at l = record {
  part : behind_dot (drop l.start l.text)
      (drop l.at l.text) ≡ behind_dot l.text l.text;
  within : l.start ≤ length l.text;
}
