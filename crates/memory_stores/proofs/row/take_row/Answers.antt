use Rattle.std.proofs.Common.{subst, sym}
use Rattle.memory_stores.specs.Rows.{IsPlaceOf, IsGapFor, IsTaken}
use Rattle.memory_stores.proofs.Rows.{without_gap, without_place}
use Rattle.memory_stores.proofs.Maps.{is_taken}
use Rattle.memory_stores.proofs.row.take_row.Goals as goal

-- the row at the path's place goes
pub returns-in-Ok-clause-taken : goal.returns-in-Ok-clause-taken
returns-in-Ok-clause-taken c =
    let rows = c.args.rows.now.items in
    let place : IsPlaceOf rows c.args.path.now c.in-Ok.at = rw (← c.deref.ensures.value) c.in-Ok.ensures.found in
    subst (IsTaken rows c.args.path.now) (sym c.remove.ensures.items) (is_taken rows _ _ c.requires (without_place rows c.args.path.now c.in-Ok.at c.requires place))

-- there is none
pub returns-in_default-clause-taken : goal.returns-in_default-clause-taken
returns-in_default-clause-taken c =
    let rows = c.args.rows.now.items in
    let at = c.in_default.field-0 in
    let gap : IsGapFor rows c.args.path.now at = rw (← c.deref.ensures.value) c.in_default.ensures.absent in
    is_taken rows _ _ c.requires (without_gap rows c.args.path.now at gap)
