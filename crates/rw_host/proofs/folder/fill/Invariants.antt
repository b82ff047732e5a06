use Rattle.std.proofs.Common.{◌≤◌, vec_len}
use Rattle.rw_host.proofs.folder.fill.Given as goal

abbrev pub invariant-loop : goal.invariant-loop
invariant-loop g l = l.filled ≤ vec_len l.buffer
