use Rattle.std.proofs.Common.{ap, sym, subst, ◌∙◌, arith}
use Rattle.std.proofs.lemmas.Bool.{both_ways}
use Rattle.std.specs.FinMap as map
use Rattle.memory_stores.specs.States.{now_of, is_changed_since}
use Rattle.memory_stores.specs.Memory.{AllFit}
use Rattle.memory_stores.proofs.Now.{now_given}
use Rattle.memory_stores.proofs.Calls.{fit_given, all_synced, stop_of_le}
use Rattle.memory_stores.proofs.memory.MemoryStore.new.Goals as goal

pub returns-clause-files : goal.returns-clause-files
returns-clause-files c = ap now_of c.in_ok-table.ensures.states ∙ now_given c.args.files.items

pub invariant_of-result : goal.invariant_of-result
invariant_of-result c = record {
  each = subst (AllFit 0 c.real_stop.result) (sym c.in_ok-table.ensures.states) (fit_given c.real_stop.result c.args.files.items);
  last_sync = omega arith;
  sync_early = omega arith;
  stop_early = rw c.real_stop.ensures (stop_of_le c.args.stop);
  log_room = omega (arith, c.in_ok-table.ensures.room);
}

pub returns-clause-all_synced : goal.returns-clause-all_synced
returns-clause-all_synced c path is =
    let states = c.in_ok-table.table.states in
    let fits : AllFit 0 1 states = subst (AllFit 0 1) (sym c.in_ok-table.ensures.states) (fit_given 1 c.args.files.items) in
    both_ways (is_changed_since 0 (map.get states path)) (all_synced 0 1 states path (omega arith) fits) is
