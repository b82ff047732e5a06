use Rattle.std.proofs.Common.{◌≡◌, suc, ◌-◌, drop, subst, sym, ◌∙◌, arith}
use Rattle.yaml_tree.specs.Decoding.{column_behind}
use Rattle.yaml_tree.proofs.ScalarSteps.{from_line}
use Rattle.yaml_tree.proofs.scalars.line_start.Goals as goal

pub returns-else-not-is_line_end-clause-line : goal.returns-else-not-is_line_end-clause-line
returns-else-not-is_line_end-clause-line c =
    let text = c.args.text.now in
    let at = c.loop-at.at in
    let next : suc (at - 1) ≡ at = omega (arith, c.loop-at-test.true) in
    subst (λ z. column_behind 0 (drop z text) ≡ column_behind 0 text) next
    (from_line (at - 1) 0 text _ (omega (arith, c.loop-at-test.true, c.loop-at.invariant))
    (sym c.is_line_end.ensures ∙ c.if-not-is_line_end.false))
