use Rattle.std.proofs.Common.{◌≡◌, ◌≤◌}
use Rattle.rewrite_cli.specs.Moments.{Idle}
use Rattle.rewrite_cli.proofs.commits.look_at_all.Given as goal

abbrev pub invariant-loop-change : goal.invariant-loop-change
invariant-loop-change g l = record {
  files : g.S.Store.files l.store ≡ g.S.Store.files l.initial.store;
  idle : Idle g.S.Store.tells_images g.S.Store.is_unsynced g.S.Store.moment g.S.Store.left_since g.S.Store.image l.initial.store l.store;
  count : g.S.Store.read_faults l.initial.store ≤ g.S.Store.read_faults l.store;
  other_count : g.S.Store.write_faults l.store ≡ g.S.Store.write_faults l.initial.store;
}
