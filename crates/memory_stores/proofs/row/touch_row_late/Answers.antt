use Rattle.std.proofs.Common.{if◌then◌else◌, set, Some, None, refl, subst, sym, ap, ◌∙◌}
use Rattle.memory_stores.specs.declared.state.FileState.{FileState}
use Rattle.memory_stores.specs.declared.row.FileRow.{FileRow}
use Rattle.std.specs.List.{insert}
use Rattle.std.specs.FinMap as map
use Rattle.memory_stores.specs.declared.undo.Undo.TheVariants.{Inserted}
use Rattle.memory_stores.specs.States.{state_of_late_write}
use Rattle.memory_stores.specs.Rows.{IsPlaceOf, IsGapFor, IsPut, states_of}
use Rattle.memory_stores.specs.Rows.{RowsGoBack}
use Rattle.memory_stores.proofs.Rows.{put_gap}
use Rattle.memory_stores.proofs.Maps.{is_put, is_put_place, state_place, state_gap}
use Rattle.memory_stores.proofs.Past.{late_back, inserted_back}
use Rattle.memory_stores.proofs.row.touch_row_late.Goals as goal

-- the row with the path keeps its file
place : (c : goal.After-drop-path-inside) → IsPlaceOf c.args.rows.now.items c.args.path c.in-Ok.at
place c = rw (← c.deref.ensures.value, ← c.as_str.ensures.bytes) c.in-Ok.ensures.found

pub returns-in-Ok-clause-put : goal.returns-in-Ok-clause-put
returns-in-Ok-clause-put c =
    let rows = c.args.rows.now.items in
    let path = c.args.path in
    let row = c.index_mut.result.now in
    let is = c.index_mut.ensures.value in
    let state : FileState = state_of_late_write (Some row.state) in
    let new : FileRow = record { path = row.path; state = state } in
    (subst (λ o. IsPut rows path (state_of_late_write o) (set rows c.in-Ok.at new)) (sym (state_place rows path c.in-Ok.at row c.requires.sorted (place c) is)) (is_put_place rows path c.in-Ok.at row state c.requires.sorted (place c) is))

pub returns-in-Ok-clause-past : goal.returns-in-Ok-clause-past
returns-in-Ok-clause-past c = late_back c.args.rows.now.items c.in-Ok.at c.index_mut.result.now (state_of_late_write (Some c.index_mut.result.now.state)) c.index_mut.ensures.value refl

-- a new row without a file goes into the gap
gap : (c : goal.Joined-put) → IsGapFor c.args.rows.now.items c.args.path c.in-Err.at
gap c = rw (← c.deref.ensures.value, ← c.as_str.ensures.bytes) c.in-Err.ensures.absent

pub returns-in-Err-clause-put : goal.returns-in-Err-clause-put
returns-in-Err-clause-put c =
    let rows = c.args.rows.now.items in
    let at = c.in-Err.at in
    let state : FileState = state_of_late_write None in
    let row : FileRow = record { path = c.args.path; state = state } in
    let inserted = c.insert-put.ensures.items ∙ ap (λ ok. if ok then insert rows at row else rows) (sym c.is_ok.ensures.value ∙ c.if-prove.false) in
    let put = is_put rows c.args.path state (insert rows at row) c.requires.sorted (put_gap rows row at (gap c)) in
    subst (IsPut rows c.args.path (state_of_late_write (map.get (states_of rows) c.args.path))) (sym inserted)
    (subst (λ o. IsPut rows c.args.path (state_of_late_write o) (insert rows at row)) (sym (state_gap rows c.args.path at c.requires.sorted (gap c))) put)

pub returns-in-Err-clause-past : goal.returns-in-Err-clause-past
returns-in-Err-clause-past c =
    let rows = c.args.rows.now.items in
    let at = c.in-Err.at in
    let row : FileRow = record { path = c.args.path; state = state_of_late_write None } in
    let inserted = c.insert-put.ensures.items ∙ ap (λ ok. if ok then insert rows at row else rows) (sym c.is_ok.ensures.value ∙ c.if-prove.false) in
    subst (RowsGoBack (Some (Inserted at)) rows) (sym inserted) (inserted_back rows at row (gap c).in_range)
