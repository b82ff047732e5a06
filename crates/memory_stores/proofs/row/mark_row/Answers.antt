use Rattle.std.proofs.Common.{refl}
use Rattle.memory_stores.specs.States.{state_of_failed_removal}
use Rattle.memory_stores.specs.Rows.{IsPlaceOf, IsGapFor}
use Rattle.memory_stores.proofs.Maps.{is_changed_place, is_changed_gap}
use Rattle.memory_stores.proofs.Past.{marked_back}
use Rattle.memory_stores.proofs.row.mark_row.Goals as goal

-- the row at the path's place says something else
place : (c : goal.After-rows-1) → IsPlaceOf c.args.rows.now.items c.args.path.now c.in-Ok.at
place c = rw (← c.deref.ensures.value) c.in-Ok.ensures.found

pub returns-in-Ok-clause-changed : goal.returns-in-Ok-clause-changed
returns-in-Ok-clause-changed c = rw (c.mark.ensures)
    (is_changed_place c.args.rows.now.items c.args.path.now c.in-Ok.at c.index_mut.result.now (λ s. state_of_failed_removal s c.args.call) c.requires (place c) c.index_mut.ensures.value)

pub returns-in-Ok-clause-past : goal.returns-in-Ok-clause-past
returns-in-Ok-clause-past c = rw (c.mark.ensures)
    (marked_back c.args.rows.now.items c.in-Ok.at c.index_mut.result.now (state_of_failed_removal c.index_mut.result.now.state c.args.call) (place c).in_range c.index_mut.ensures.value refl)

-- there is none
pub returns-in-Err-clause-changed : goal.returns-in-Err-clause-changed
returns-in-Err-clause-changed c =
    let gap : IsGapFor c.args.rows.now.items c.args.path.now c.in-Err.field-0 = rw (← c.deref.ensures.value) c.in-Err.ensures.absent in
    is_changed_gap c.args.rows.now.items c.args.path.now c.in-Err.field-0 (λ s. state_of_failed_removal s c.args.call) c.requires gap
