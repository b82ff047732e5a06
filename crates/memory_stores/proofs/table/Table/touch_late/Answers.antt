use Rattle.std.proofs.Common.{subst}
use Rattle.memory_stores.specs.Rows.{states_of}
use Rattle.memory_stores.specs.Past.{StatesGoBack}
use Rattle.memory_stores.proofs.Past.{states_back}
use Rattle.memory_stores.proofs.table.Table.touch_late.Goals as goal

pub returns-clause-past : goal.returns-clause-past
returns-clause-past c =
    let rows = c.touch_row_late.new.rows.items in
    subst (λ known. StatesGoBack (c.touch_row_late.result) known.states (states_of rows)) c.self.view_is
    (states_back (c.touch_row_late.result) c.self.inside.rows.items rows c.self.invariant c.touch_row_late.ensures.put.sorted c.touch_row_late.ensures.past)
