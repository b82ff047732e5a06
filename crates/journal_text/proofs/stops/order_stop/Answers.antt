use Rattle.std.proofs.Common.{◌≡◌, length, take, arith, subst}
use Rattle.journal_text.proofs.Controls.{order_end, order_past, order_above, order_stops, order_front}
use Rattle.journal_text.proofs.stops.order_stop.Goals as goal

pub returns-then-i-before-clause-front : goal.returns-then-i-before-clause-front
returns-then-i-before-clause-front c = order_past c.args.before.now c.args.line.now c.loop-i.i (omega arith) c.loop-i.invariant.same

pub returns-then-before-i-clause-front : goal.returns-then-before-i-clause-front
returns-then-before-i-clause-front c = order_above c.args.before.now c.args.line.now c.loop-i.i (omega arith) (omega arith) c.loop-i.invariant.same (omega arith)

pub returns-then-b-before-clause-stops : goal.returns-then-b-before-clause-stops
returns-then-b-before-clause-stops c = order_stops c.args.before.now c.args.line.now c.loop-i.i (omega arith) (omega arith) c.loop-i.invariant.same (omega arith)

pub returns-then-b-before-clause-front : goal.returns-then-b-before-clause-front
returns-then-b-before-clause-front c = order_front c.args.before.now c.args.line.now c.loop-i.i c.loop-i.invariant.place (omega arith) c.loop-i.invariant.same

pub returns-clause-front : goal.returns-clause-front
returns-clause-front c =
    let e : c.loop-i.i ≡ length c.args.line.now = omega arith in
    order_end c.args.before.now c.args.line.now (omega (arith, c.loop-i.invariant.place)) (subst (λ n. take n c.args.before.now ≡ take n c.args.line.now) e c.loop-i.invariant.same)
