use Rattle.std.proofs.Common.{sym, ap, ◌∙◌, Some}
use Rattle.std.specs.FinMap as map
use Rattle.memory_stores.specs.Rows.{IsPlaceOf, IsGapFor}
use Rattle.memory_stores.proofs.Rows.{find_gap, find_place}
use Rattle.memory_stores.proofs.Maps.{states_get}
use Rattle.memory_stores.proofs.table.Table.state.Goals as goal

-- the path is at its place, and the state there is the one that was read
pub returns-in-Ok : goal.returns-in-Ok
returns-in-Ok c =
    let place : IsPlaceOf c.self.inside.rows.items c.args.path.now c.in-Ok.at = rw (← c.deref.ensures.value) c.in-Ok.ensures.found in
    ap Some (ap (λ row. row.state) c.index.ensures)
    ∙ sym (find_place _ _ _ _ c.self.invariant place)
    ∙ sym (states_get _ _ c.self.invariant)
    ∙ ap (λ known. map.get known.states c.args.path.now) c.self.view_is

-- the path isn't there
pub returns-in-Err : goal.returns-in-Err
returns-in-Err c =
    let gap : IsGapFor c.self.inside.rows.items c.args.path.now c.in-Err.field-0 = rw (← c.deref.ensures.value) c.in-Err.ensures.absent in
    sym (find_gap _ _ _ gap)
    ∙ sym (states_get _ _ c.self.invariant)
    ∙ ap (λ known. map.get known.states c.args.path.now) c.self.view_is
