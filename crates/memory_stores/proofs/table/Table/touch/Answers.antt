use Rattle.std.proofs.Common.{subst}
use Rattle.memory_stores.specs.Rows.{states_of}
use Rattle.memory_stores.specs.Past.{StatesGoBack}
use Rattle.memory_stores.proofs.Past.{states_back}
use Rattle.memory_stores.proofs.table.Table.touch.Goals as goal

pub returns-clause-past : goal.returns-clause-past
returns-clause-past c =
    let rows = c.touch_row.new.rows.items in
    subst (λ known. StatesGoBack (c.touch_row.result) known.states (states_of rows)) c.self.view_is
    (states_back (c.touch_row.result) c.self.inside.rows.items rows c.self.invariant c.touch_row.ensures.put.sorted c.touch_row.ensures.past)
