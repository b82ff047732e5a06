use Rattle.std.proofs.Common.{◌<◌, ◌≤◌, ◌+◌, subst, sym, ap, ◌∙◌, arith}
use Rattle.std.specs.FinMap as map
use Rattle.rw_host.specs.Files.{SameElsewhere}
use Rattle.rw_host.specs.FileLaws.{same_elsewhere-remove}
use Rattle.memory_stores.specs.States.{now_of, state_of_removal, state_of_removal_fault, change_state}
use Rattle.memory_stores.specs.declared.state.FileState.{FileState}
use Rattle.memory_stores.specs.Memory.{AllFit}
use Rattle.memory_stores.proofs.Now.{now_removed, now_marked_by}
use Rattle.memory_stores.proofs.Calls.{fit_changed, fit_removed, fit_marked_by, change_goes, removed_unsynced, removed_never, marked_by_unsynced, marked_by_never}
use Rattle.memory_stores.proofs.memory.MemoryStoreStore.remove.Goals as goal

-- ---- a removal that fails
pub returns-then-begin-clause-kept : goal.returns-then-begin-clause-kept
returns-then-begin-clause-kept c =
    ap (λ s. now_of s.states) c.write_fault.ensures.counted
    ∙ ap now_of c.mark.ensures.states
    ∙ now_marked_by c.self.inside.table.states c.args.path.now c.self.inside.calls c.self.inside.stop
    ∙ ap (λ s. now_of s.states) (c.self.view_is ∙ c.begin.ensures.counted)

pub returns-then-begin-clause-elsewhere : goal.returns-then-begin-clause-elsewhere
returns-then-begin-clause-elsewhere c told = ap (λ files. map.remove files c.args.path.now) (returns-then-begin-clause-kept c)

pub returns-then-begin-clause-crash : goal.returns-then-begin-clause-crash
returns-then-begin-clause-crash c told =
    let old = c.args.self.now in
    let inside = c.self.inside in
    let mid = c.self.view_is ∙ c.begin.ensures.counted in
    let change = state_of_removal_fault inside.calls inside.stop in
    let later : old.synced < inside.calls = subst (λ n. n < inside.calls) (ap (λ s. s.synced) mid) (subst (λ s. s.synced < s.calls) (sym c.self.view_is) c.begin.ensures.later) in
    change_goes old c.write_fault.new.self c.args.path.now change inside.calls inside.stop
    (ap (λ s. s.states) c.write_fault.ensures.counted ∙ (c.mark.ensures.states ∙ ap (λ s. change_state s.states c.args.path.now change) mid))
    (ap (λ s. s.synced) c.write_fault.ensures.counted ∙ ap (λ s. s.synced) mid)
    (ap (λ s. s.past) c.write_fault.ensures.counted ∙ (c.mark.ensures.past ∙ ap (λ s. s.past) mid))
    (subst (AllFit inside.calls inside.stop) (ap (λ s. s.states) mid) c.self.invariant.each)
    (λ s e. marked_by_unsynced old.synced inside.calls inside.stop s later e) (λ s f e. marked_by_never inside.calls inside.stop s e)
    (returns-then-begin-clause-elsewhere c told)

pub invariant_of-self : goal.invariant_of-self
invariant_of-self c =
    let kept = c.self.invariant in
    let inside = c.self.inside in
    let slack : 65537 ≤ inside.table.room + inside.calls = subst (λ s. 65537 ≤ s.room + s.calls) (sym c.self.view_is) c.begin.ensures.room in
    record {
      each = subst (AllFit inside.calls inside.stop) (sym c.mark.ensures.states) (fit_changed inside.calls inside.stop _ c.args.path.now (state_of_removal_fault inside.calls inside.stop) (λ s f. fit_marked_by inside.calls inside.stop s f) kept.each);
      last_sync = kept.last_sync;
      sync_early = kept.sync_early;
      stop_early = kept.stop_early;
      log_room = omega (arith, slack, c.mark.ensures.room);
    }

-- ---- one that doesn't
pub invariant_of-self-2 : goal.invariant_of-self-2
invariant_of-self-2 c =
    let kept = c.self-2.invariant in
    let inside = c.self-2.inside in
    let slack : 65537 ≤ inside.table.room + inside.calls = subst (λ s. 65537 ≤ s.room + s.calls) (sym c.self-2.view_is) c.begin.ensures.room in
    record {
      each = subst (AllFit inside.calls inside.stop) (sym c.empty.ensures.states) (fit_changed inside.calls inside.stop _ c.args.path.now (λ s. state_of_removal s inside.calls) (λ s f. fit_removed inside.calls inside.stop s f) kept.each);
      last_sync = kept.last_sync;
      sync_early = kept.sync_early;
      stop_early = kept.stop_early;
      log_room = omega (arith, slack, c.empty.ensures.room);
    }

pub returns-clause-removed : goal.returns-clause-removed
returns-clause-removed c told =
    let path = c.args.path.now in
    ap now_of c.empty.ensures.states
    ∙ (now_removed c.self-2.inside.table.states path c.self-2.inside.calls
    ∙ ap (λ s. map.remove (now_of s.states) path) (c.self-2.view_is ∙ c.begin.ensures.counted))

pub returns-clause-elsewhere : goal.returns-clause-elsewhere
returns-clause-elsewhere c told =
    let path = c.args.path.now in
    let files = now_of c.args.self.now.states in
    subst (SameElsewhere path files) (sym (returns-clause-removed c told)) (same_elsewhere-remove path files)

pub returns-clause-crash : goal.returns-clause-crash
returns-clause-crash c told =
    let old = c.args.self.now in
    let inside = c.self-2.inside in
    let mid = c.self-2.view_is ∙ c.begin.ensures.counted in
    let change : FileState → FileState = λ s. state_of_removal s inside.calls in
    let later : old.synced < inside.calls = subst (λ n. n < inside.calls) (ap (λ s. s.synced) mid) (subst (λ s. s.synced < s.calls) (sym c.self-2.view_is) c.begin.ensures.later) in
    change_goes old (record old { states = c.empty.new.self.states; past = c.empty.new.self.past; synced = inside.synced }) c.args.path.now change inside.calls inside.stop
    (c.empty.ensures.states ∙ ap (λ s. change_state s.states c.args.path.now change) mid)
    (ap (λ s. s.synced) mid)
    (c.empty.ensures.past ∙ ap (λ s. s.past) mid)
    (subst (AllFit inside.calls inside.stop) (ap (λ s. s.states) mid) c.self-2.invariant.each)
    (λ s e. removed_unsynced old.synced inside.calls s later e) (λ s f e. removed_never inside.calls inside.calls inside.stop s f e)
    (returns-clause-elsewhere c told)
