use Rattle.std.proofs.Common.{◌∙◌, sym, ap, arith}
use Rattle.std.specs.Prelude.{reverse}
use Rattle.expression_names.specs.Bodies.{body_around, first_body, whose_body}
use Rattle.expression_names.proofs.Inward.{is_first, is_around}
use Rattle.expression_names.proofs.bodies.whose_body.Goals as goal

pub returns-in-Some : goal.returns-in-Some
unfolding whose_body
returns-in-Some c =
    let around = body_around (reverse c.args.cx.now.enclosing) in
    let scopes = c.as_slice-scopes.result.now in
    record {
      value =
          is_first around scopes c.loop-at.at c.loop-at.invariant c.index-scopes-at.result c.in-Some.whose
          c.loop-at-test.true (omega (arith, c.loop-at.auto.at)) c.index-scopes-at.is
          (sym c.in-Some.is ∙ c.in_ok-whose.ensures)
          ∙ ap (λ fs. first_body around (reverse fs)) c.as_slice-scopes.ensures;
    }

pub returns : goal.returns
unfolding whose_body
returns c =
    let around = body_around (reverse c.args.cx.now.enclosing) in
    let scopes = c.as_slice-scopes.result.now in
    record {
      value =
          c.in_ok-whose-2.ensures
          ∙ ap (λ es. body_around (reverse es)) c.as_slice.ensures
          ∙ is_around around scopes c.loop-at.at c.loop-at.invariant (omega (arith, c.loop-at-test.false))
          ∙ ap (λ fs. first_body around (reverse fs)) c.as_slice-scopes.ensures;
    }
