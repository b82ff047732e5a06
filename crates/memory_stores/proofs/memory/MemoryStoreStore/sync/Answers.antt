use Rattle.std.proofs.Common.{◌<◌, ◌∷◌, subst, sym, ap, ◌∙◌}
use Rattle.memory_stores.specs.Memory.{AllFit}
use Rattle.memory_stores.proofs.Calls.{still, sync_goes_by, sync_leaves}
use Rattle.memory_stores.proofs.memory.MemoryStoreStore.sync.Goals as goal

-- a sync that fails
pub returns-then-begin-clause-crash : goal.returns-then-begin-clause-crash
returns-then-begin-clause-crash c told =
    still c.args.self.now c.write_fault.new.self
    (ap (λ s. s.states) c.write_fault.ensures.counted ∙ ap (λ s. s.states) c.begin.ensures.counted)
    (ap (λ s. s.synced) c.write_fault.ensures.counted ∙ ap (λ s. s.synced) c.begin.ensures.counted)
    (ap (λ s. s.past) c.write_fault.ensures.counted ∙ ap (λ s. s.past) c.begin.ensures.counted)

-- ---- one that doesn't
early : (c : goal.After-self-2-1) → c.self.inside.calls < c.self.inside.stop
early c = subst (λ s. s.calls < s.stop) (sym c.self.view_is) (c.begin.ensures.early c.if-begin.false)

fits : (c : goal.After-self-2-1) → AllFit c.self.inside.calls c.self.inside.stop c.args.self.now.states
fits c = subst (AllFit c.self.inside.calls c.self.inside.stop) (ap (λ s. s.states) (c.self.view_is ∙ c.begin.ensures.counted)) c.self.invariant.each

pub returns-clause-durable : goal.returns-clause-durable
returns-clause-durable c told =
    let old = c.args.self.now in
    sync_leaves old (record old { states = c.sync.new.self.states; past = c.sync.new.self.past; synced = c.self.inside.calls }) c.self.inside.stop
    (c.sync.ensures.states ∙ ap (λ s. s.states) (c.self.view_is ∙ c.begin.ensures.counted)) (early c) (fits c)

pub returns-clause-crash : goal.returns-clause-crash
returns-clause-crash c told =
    let old = c.args.self.now in
    let mid = c.self.view_is ∙ c.begin.ensures.counted in
    sync_goes_by old (record old { states = c.sync.new.self.states; past = c.sync.new.self.past; synced = c.self.inside.calls }) c.self.inside.stop
    (c.sync.ensures.states ∙ ap (λ s. s.states) mid)
    (c.sync.ensures.past ∙ ap (λ s. (s.states, s.synced) ∷ s.past) mid)
    (early c) (fits c)
