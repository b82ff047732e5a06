use Rattle.j_attrib.proofs.expressions.of_type.Goals as goal

pub returns : goal.returns
returns c = λ w. rw c.expr.ensures at c.in_ok-value.ensures w
