use Rattle.std.proofs.Common.{◌∙◌, ap, sym, Some}
use Rattle.operator_types.specs.Conditional.{of_null, or_row}
use Rattle.operator_types.proofs.Looking.{row_of_same, further_rows}
use Rattle.operator_types.proofs.conditional.without_look.Goals as goal

pub returns-then-is : goal.returns-then-is
returns-then-is c = row_of_same c.args.a.now c.args.b.now c.in_ok-t.t c.is.result c.is.ensures c.if-is.true c.in_ok-t.ensures

pub returns-in-Some : goal.returns-in-Some
returns-in-Some c =
    let a = c.args.a.now in
    let b = c.args.b.now in
    further_rows a b c.is.result (Some c.in-Some.t) c.is.ensures c.if-is.false (ap (λ o. or_row o (of_null a b)) c.in-Some.ensures)

pub returns : goal.returns
returns c =
    let a = c.args.a.now in
    let b = c.args.b.now in
    further_rows a b c.is.result c.in_ok-t-2.t c.is.ensures c.if-is.false
    (c.in_ok-t-2.ensures ∙ ap (λ o. or_row o (of_null a b)) (sym c.in_default.is ∙ c.of_unboxed.ensures))
