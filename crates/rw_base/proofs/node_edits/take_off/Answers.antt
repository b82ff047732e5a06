use Rattle.std.proofs.Common.{◌≡◌, true, false, ◌-◌, length, take, sym, ap, ◌∙◌}
use Rattle.rw_base.proofs.Doing.{starts, cut_taken, cut_kept}
use Rattle.rw_base.proofs.node_edits.take_off.Goals as goal

pub returns-then-starts_with : goal.returns-then-starts_with
returns-then-starts_with c =
    let size = c.saturating_sub-size.ensures ∙ ap (λ n. n - c.args.behind) c.len.ensures in
    let tested : starts c.args.front.now (take (length c.args.text.now - c.args.behind) c.args.text.now) ≡ true =
    ap (λ n. starts c.args.front.now (take n c.args.text.now)) (sym size) ∙ (ap (λ xs. starts c.args.front.now (take c.saturating_sub-size.result xs)) (sym c.as_slice.ensures) ∙ sym c.if-starts_with.ensures.value) in
    c.drop_front.ensures ∙ cut_taken c.args.front.now c.args.text.now c.args.behind tested

pub returns-else-starts_with : goal.returns-else-starts_with
returns-else-starts_with c =
    let size = c.saturating_sub-size.ensures ∙ ap (λ n. n - c.args.behind) c.len.ensures in
    let tested : starts c.args.front.now (take (length c.args.text.now - c.args.behind) c.args.text.now) ≡ false =
    ap (λ n. starts c.args.front.now (take n c.args.text.now)) (sym size) ∙ (ap (λ xs. starts c.args.front.now (take c.saturating_sub-size.result xs)) (sym c.as_slice.ensures) ∙ sym c.if-starts_with.ensures.value) in
    cut_kept c.args.front.now c.args.text.now c.args.behind tested
