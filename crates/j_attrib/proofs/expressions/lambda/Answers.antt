use Rattle.j_attrib.proofs.ExpressionSteps.{noted_lambda}
use Rattle.j_attrib.proofs.expressions.lambda.Goals as goal

pub returns : goal.returns
returns c = λ w.
    noted_lambda c.args.node c.args.leaves.now w c.args.log.now c.note.new.self c.note_locals.new.log
    c.in_ok-note.ensures.notes c.in_ok-note.ensures.asks c.in_ok-note_locals.ensures.notes c.in_ok-note_locals.ensures.asks
