use Rattle.std.proofs.Common.{ap, ◌∙◌}
use Rattle.memory_stores.proofs.Calls.{still}
use Rattle.memory_stores.proofs.memory.MemoryStoreStore.reserve.Goals as goal

pub returns-then-begin-clause-crash : goal.returns-then-begin-clause-crash
returns-then-begin-clause-crash c told =
    still c.args.self.now c.read_fault.new.self
    (ap (λ s. s.states) c.read_fault.ensures.counted ∙ ap (λ s. s.states) c.begin.ensures.counted)
    (ap (λ s. s.synced) c.read_fault.ensures.counted ∙ ap (λ s. s.synced) c.begin.ensures.counted)
    (ap (λ s. s.past) c.read_fault.ensures.counted ∙ ap (λ s. s.past) c.begin.ensures.counted)

-- room alone is made
pub returns-in_err-reserve-clause-crash : goal.returns-in_err-reserve-clause-crash
returns-in_err-reserve-clause-crash c told =
    let old = c.args.self.now in
    let mid = c.self.view_is ∙ c.begin.ensures.counted in
    still old (record old { states = c.reserve.new.self.states; past = c.reserve.new.self.past; synced = c.self.inside.synced })
    (c.reserve.ensures.states ∙ ap (λ s. s.states) mid) (ap (λ s. s.synced) mid) (c.reserve.ensures.past ∙ ap (λ s. s.past) mid)

pub returns-clause-crash : goal.returns-clause-crash
returns-clause-crash c told =
    let old = c.args.self.now in
    let mid = c.self.view_is ∙ c.begin.ensures.counted in
    still old (record old { states = c.reserve.new.self.states; past = c.reserve.new.self.past; synced = c.self.inside.synced })
    (c.reserve.ensures.states ∙ ap (λ s. s.states) mid) (ap (λ s. s.synced) mid) (c.reserve.ensures.past ∙ ap (λ s. s.past) mid)
