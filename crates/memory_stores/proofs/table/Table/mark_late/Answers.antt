use Rattle.std.proofs.Common.{subst, None}
use Rattle.memory_stores.specs.Rows.{states_of}
use Rattle.memory_stores.specs.Past.{StatesGoBack}
use Rattle.memory_stores.proofs.Past.{states_back}
use Rattle.memory_stores.proofs.table.Table.mark_late.Goals as goal

pub returns-clause-past : goal.returns-clause-past
returns-clause-past c =
    let rows = c.mark_row_late.new.rows.items in
    subst (λ known. StatesGoBack (None) known.states (states_of rows)) c.self.view_is
    (states_back (None) c.self.inside.rows.items rows c.self.invariant c.mark_row_late.ensures.changed.sorted c.mark_row_late.ensures.past)
