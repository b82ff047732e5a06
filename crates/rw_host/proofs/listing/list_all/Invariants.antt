use Rattle.std.proofs.Common.{◌≤◌, vec_len}
use Rattle.rw_host.proofs.listing.list_all.Given as goal

abbrev pub invariant-loop : goal.invariant-loop
invariant-loop g l = vec_len l.found.paths ≤ l.most
