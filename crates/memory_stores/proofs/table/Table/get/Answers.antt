use Rattle.std.proofs.Common.{Some, sym, ap, ◌∙◌}
use Rattle.std.specs.Option.{option_map}
use Rattle.memory_stores.specs.States.{now_at}
use Rattle.memory_stores.proofs.Now.{get_now}
use Rattle.memory_stores.proofs.table.Table.get.Goals as goal

-- the path isn't known
pub returns-in_err-state : goal.returns-in_err-state
returns-in_err-state c =
    ap (option_map (λ bytes. bytes.now)) c.from_residual.ensures
    ∙ ap now_at (ap (option_map (λ state. state.now)) (sym c.in_err-state.was) ∙ c.state.ensures)
    ∙ sym (get_now c.args.self.now.states c.args.path.now)

-- it has a file
pub returns-in-Some : goal.returns-in-Some
returns-in-Some c =
    ap Some c.as_slice.ensures
    ∙ sym c.in-Some.is
    ∙ ap now_at (ap (option_map (λ state. state.now)) (sym c.in_ok-state.was) ∙ c.state.ensures)
    ∙ sym (get_now c.args.self.now.states c.args.path.now)

-- it has none now
pub returns-in-None : goal.returns-in-None
returns-in-None c =
    sym c.in-None.is
    ∙ ap now_at (ap (option_map (λ state. state.now)) (sym c.in_ok-state.was) ∙ c.state.ensures)
    ∙ sym (get_now c.args.self.now.states c.args.path.now)
