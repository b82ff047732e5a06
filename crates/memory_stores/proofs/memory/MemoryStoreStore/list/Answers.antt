use Rattle.std.proofs.Common.{ap, ◌∙◌}
use Rattle.memory_stores.proofs.Calls.{still}
use Rattle.memory_stores.proofs.memory.MemoryStoreStore.list.Goals as goal

-- a list changes nothing but counts
pub returns-then-begin-clause-crash : goal.returns-then-begin-clause-crash
returns-then-begin-clause-crash c told =
    still c.args.self.now c.read_fault.new.self
    (ap (λ s. s.states) c.read_fault.ensures.counted ∙ ap (λ s. s.states) c.begin.ensures.counted)
    (ap (λ s. s.synced) c.read_fault.ensures.counted ∙ ap (λ s. s.synced) c.begin.ensures.counted)
    (ap (λ s. s.past) c.read_fault.ensures.counted ∙ ap (λ s. s.past) c.begin.ensures.counted)

pub returns-clause-crash : goal.returns-clause-crash
returns-clause-crash c told = still c.args.self.now c.begin.new.self (ap (λ s. s.states) c.begin.ensures.counted) (ap (λ s. s.synced) c.begin.ensures.counted) (ap (λ s. s.past) c.begin.ensures.counted)
