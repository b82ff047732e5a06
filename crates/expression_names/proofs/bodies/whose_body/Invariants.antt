use Rattle.std.proofs.Common.{◌≡◌, reverse, take}
use Rattle.expression_names.specs.Bodies.{first_body, body_around}
use Rattle.expression_names.proofs.bodies.whose_body.Given as goal

abbrev pub invariant-loop-at : goal.invariant-loop-at
invariant-loop-at l =
    first_body (body_around (reverse l.cx.enclosing)) (reverse (take l.at l.scopes))
    ≡ first_body (body_around (reverse l.cx.enclosing)) (reverse l.scopes)
