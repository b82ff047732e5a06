use Rattle.std.proofs.Common.{if◌then◌else◌, Some, subst, sym, ap, ◌∙◌}
use Rattle.std.specs.List.{insert}
use Rattle.memory_stores.specs.declared.undo.Undo.TheVariants.{Inserted}
use Rattle.memory_stores.specs.Rows.{IsPlaceOf, IsGapFor, IsPut}
use Rattle.memory_stores.specs.Rows.{RowsGoBack}
use Rattle.memory_stores.proofs.Rows.{put_gap}
use Rattle.memory_stores.proofs.Maps.{is_put, is_put_place}
use Rattle.memory_stores.proofs.Past.{changed_back, inserted_back}
use Rattle.memory_stores.proofs.row.put_row.Goals as goal

-- the row with the path gets the state
place : (c : goal.After-drop-row) → IsPlaceOf c.args.rows.now.items c.args.row.path c.in-Ok.at
place c = rw (← c.deref.ensures.value, ← c.as_str.ensures.bytes) c.in-Ok.ensures.found

pub returns-in-Ok-clause-put : goal.returns-in-Ok-clause-put
returns-in-Ok-clause-put c = rw (c.replace-old.ensures.after) (is_put_place c.args.rows.now.items c.args.row.path c.in-Ok.at c.index_mut.result.now c.args.row.state c.requires.sorted (place c) c.index_mut.ensures.value)

pub returns-in-Ok-clause-past : goal.returns-in-Ok-clause-past
returns-in-Ok-clause-past c = rw (c.replace-old.ensures.value, c.replace-old.ensures.after) (changed_back c.args.rows.now.items c.in-Ok.at c.index_mut.result.now c.args.row.state (place c).in_range c.index_mut.ensures.value)

-- the row goes into the gap
gap : (c : goal.Joined-put) → IsGapFor c.args.rows.now.items c.args.row.path c.in-Err.at
gap c = rw (← c.deref.ensures.value, ← c.as_str.ensures.bytes) c.in-Err.ensures.absent

pub returns-in-Err-clause-put : goal.returns-in-Err-clause-put
returns-in-Err-clause-put c =
    let rows = c.args.rows.now.items in
    let at = c.in-Err.at in
    let inserted = c.insert-put.ensures.items ∙ ap (λ ok. if ok then insert rows at c.args.row else rows) (sym c.is_ok.ensures.value ∙ c.if-prove.false) in
    subst (IsPut rows c.args.row.path c.args.row.state) (sym inserted) (is_put rows _ _ _ c.requires.sorted (put_gap rows c.args.row at (gap c)))

pub returns-in-Err-clause-past : goal.returns-in-Err-clause-past
returns-in-Err-clause-past c =
    let rows = c.args.rows.now.items in
    let at = c.in-Err.at in
    let inserted = c.insert-put.ensures.items ∙ ap (λ ok. if ok then insert rows at c.args.row else rows) (sym c.is_ok.ensures.value ∙ c.if-prove.false) in
    subst (RowsGoBack (Some (Inserted at)) rows) (sym inserted) (inserted_back rows at c.args.row (gap c).in_range)
