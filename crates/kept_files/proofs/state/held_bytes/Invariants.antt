use Rattle.std.proofs.Common.{◌≡◌, ◌<◌, ◌+◌, ◌-◌, ◌^◌, min, drop}
use Rattle.kept_files.specs.States.{held_bytes}
use Rattle.kept_files.proofs.state.held_bytes.Given as goal

abbrev pub invariant-loop-file : goal.invariant-loop-file
invariant-loop-file l = record {
  sum : min (l.held + held_bytes (drop l.file-index l.files)) (2 ^ 64 - 1) ≡ min (held_bytes l.files) (2 ^ 64 - 1);
  few : l.held < 2 ^ 64;
}
