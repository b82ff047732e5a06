use Rattle.std.proofs.Common.{◌<◌, ◌≤◌, ◌+◌, refl, subst, sym, ap, ◌∙◌, arith}
use Rattle.std.specs.Prelude.{IsTrue}
use Rattle.std.specs.FinMap as map
use Rattle.rw_host.specs.Files.{SameElsewhere}
use Rattle.rw_host.specs.FileLaws.{same_elsewhere-insert}
use Rattle.memory_stores.specs.States.{now_of, state_of_write, state_of_write_fault, is_changed_since}
use Rattle.memory_stores.specs.Memory.{AllFit, IsUnsynced}
use Rattle.memory_stores.proofs.Now.{now_put, now_touched_by}
use Rattle.memory_stores.proofs.Calls.{fit_insert, fit_held, fit_touched_by, held_unsynced, touched_by_unsynced, put_unsynced, put_goes}
use Rattle.memory_stores.proofs.memory.MemoryStoreStore.write.Goals as goal

-- ---- a write that fails
pub invariant_of-self : goal.invariant_of-self
invariant_of-self c =
    let kept = c.self.invariant in
    let inside = c.self.inside in
    let slack : 65537 ≤ inside.table.room + inside.calls = subst (λ s. 65537 ≤ s.room + s.calls) (sym c.self.view_is) c.begin.ensures.room in
    record {
      each = subst (AllFit inside.calls inside.stop) (sym c.touch.ensures.states) (fit_insert _ _ _ c.args.path _ (fit_touched_by inside.calls inside.stop _ (kept.each c.args.path)) kept.each);
      last_sync = kept.last_sync;
      sync_early = kept.sync_early;
      stop_early = kept.stop_early;
      log_room = omega (arith, slack, c.touch.ensures.room);
    }

pub returns-then-begin-clause-kept : goal.returns-then-begin-clause-kept
returns-then-begin-clause-kept c =
    ap (λ s. now_of s.states) c.write_fault.ensures.counted
    ∙ ap now_of c.touch.ensures.states
    ∙ now_touched_by c.self.inside.table.states c.args.path c.self.inside.calls c.self.inside.stop
    ∙ ap (λ s. now_of s.states) (c.self.view_is ∙ c.begin.ensures.counted)

pub returns-then-begin-clause-elsewhere : goal.returns-then-begin-clause-elsewhere
returns-then-begin-clause-elsewhere c told = ap (λ files. map.remove files c.args.path) (returns-then-begin-clause-kept c)

pub returns-then-begin-clause-path_unsynced : goal.returns-then-begin-clause-path_unsynced
returns-then-begin-clause-path_unsynced c =
    let path = c.args.path in
    let inside = c.self.inside in
    let before = map.get inside.table.states path in
    let state = state_of_write_fault inside.calls inside.stop before in
    let later : inside.synced < inside.calls = subst (λ s. s.synced < s.calls) (sym c.self.view_is) c.begin.ensures.later in
    let changed = put_unsynced inside.synced inside.table.states path state (touched_by_unsynced inside.synced inside.calls inside.stop before later) in
    subst (λ s. IsUnsynced s path) (sym c.write_fault.ensures.counted)
    (subst (λ states. IsTrue (is_changed_since inside.synced (map.get states path))) (sym c.touch.ensures.states) changed)

pub returns-then-begin-clause-crash : goal.returns-then-begin-clause-crash
returns-then-begin-clause-crash c told =
    let path = c.args.path in
    let old = c.args.self.now in
    let inside = c.self.inside in
    let mid = c.self.view_is ∙ c.begin.ensures.counted in
    let state = state_of_write_fault inside.calls inside.stop (map.get inside.table.states path) in
    let later : inside.synced < inside.calls = subst (λ s. s.synced < s.calls) (sym c.self.view_is) c.begin.ensures.later in
    let later_old : old.synced < inside.calls = subst (λ n. n < inside.calls) (ap (λ s. s.synced) mid) later in
    put_goes old c.write_fault.new.self path state
    (ap (λ s. s.states) c.write_fault.ensures.counted ∙ (c.touch.ensures.states ∙ ap (λ s. map.insert s.states path state) mid))
    (ap (λ s. s.synced) c.write_fault.ensures.counted ∙ ap (λ s. s.synced) mid)
    (ap (λ s. s.past) c.write_fault.ensures.counted ∙ (c.touch.ensures.past ∙ ap (λ s. s.past) mid))
    (touched_by_unsynced old.synced inside.calls inside.stop (map.get inside.table.states path) later_old)
    (returns-then-begin-clause-elsewhere c told)

-- ---- one that doesn't
pub invariant_of-self-2 : goal.invariant_of-self-2
invariant_of-self-2 c =
    let kept = c.self-2.invariant in
    let inside = c.self-2.inside in
    let slack : 65537 ≤ inside.table.room + inside.calls = subst (λ s. 65537 ≤ s.room + s.calls) (sym c.self-2.view_is) c.begin.ensures.room in
    record {
      each = subst (AllFit inside.calls inside.stop) (sym c.put.ensures.states) (fit_insert _ _ _ c.args.path _ (fit_held inside.calls inside.stop c.args.bytes.items) kept.each);
      last_sync = kept.last_sync;
      sync_early = kept.sync_early;
      stop_early = kept.stop_early;
      log_room = omega (arith, slack, c.put.ensures.room);
    }

pub returns-clause-written : goal.returns-clause-written
returns-clause-written c told =
    let path = c.args.path in
    let bytes = c.args.bytes.items in
    let states = c.self-2.inside.table.states in
    ap now_of c.put.ensures.states
    ∙ (now_put states path (state_of_write bytes c.self-2.inside.calls) bytes refl
    ∙ ap (λ s. map.insert (now_of s.states) path bytes) (c.self-2.view_is ∙ c.begin.ensures.counted))

pub returns-clause-elsewhere : goal.returns-clause-elsewhere
returns-clause-elsewhere c told =
    let path = c.args.path in
    let files = now_of c.args.self.now.states in
    subst (SameElsewhere path files) (sym (returns-clause-written c told)) (same_elsewhere-insert path files c.args.bytes.items)

pub returns-clause-crash : goal.returns-clause-crash
returns-clause-crash c told =
    let path = c.args.path in
    let old = c.args.self.now in
    let inside = c.self-2.inside in
    let mid = c.self-2.view_is ∙ c.begin.ensures.counted in
    let later : inside.synced < inside.calls = subst (λ s. s.synced < s.calls) (sym c.self-2.view_is) c.begin.ensures.later in
    let later_old : old.synced < inside.calls = subst (λ n. n < inside.calls) (ap (λ s. s.synced) mid) later in
    put_goes old (record old { states = c.put.new.self.states; past = c.put.new.self.past; synced = inside.synced }) path (state_of_write c.args.bytes.items inside.calls)
    (c.put.ensures.states ∙ ap (λ s. map.insert s.states path (state_of_write c.args.bytes.items inside.calls)) mid)
    (ap (λ s. s.synced) mid)
    (c.put.ensures.past ∙ ap (λ s. s.past) mid)
    (held_unsynced old.synced inside.calls c.args.bytes.items later_old)
    (returns-clause-elsewhere c told)

pub returns-clause-path_unsynced : goal.returns-clause-path_unsynced
returns-clause-path_unsynced c =
    let path = c.args.path in
    let inside = c.self-2.inside in
    let state = state_of_write c.args.bytes.items inside.calls in
    let later : inside.synced < inside.calls = subst (λ s. s.synced < s.calls) (sym c.self-2.view_is) c.begin.ensures.later in
    subst (λ states. IsTrue (is_changed_since inside.synced (map.get states path))) (sym c.put.ensures.states)
    (put_unsynced inside.synced inside.table.states path state (held_unsynced inside.synced inside.calls c.args.bytes.items later))
