use Rattle.std.proofs.Common.{◌≡◌, ◌+◌, length, arith, sym, subst}
use Rattle.journal_text.specs.Stops.{PartsAt}
use Rattle.journal_text.proofs.PathParts.{parts_start, parts_on, parts_slash, parts_bad, parts_front}
use Rattle.journal_text.proofs.stops.parts_stop.Goals as goal
use Rattle.journal_text.proofs.stops.parts_stop.Goals.{then-b-eq47+else-not-is_part, else-b-eq47}

pub loop-i-init : goal.loop-i-init
loop-i-init c = parts_start c.args.line.now

pub returns-then-not-is_part-clause-stops : goal.returns-then-not-is_part-clause-stops
returns-then-not-is_part-clause-stops c = λ before. parts_bad before c.args.line.now c.loop-i.start c.loop-i.i c.loop-i.invariant (omega arith) c.if-b-eq47.true (sym c.if-not-is_part.ensures)

pub returns-then-not-is_part-clause-front : goal.returns-then-not-is_part-clause-front
returns-then-not-is_part-clause-front c = parts_front c.args.line.now c.loop-i.start c.loop-i.i c.loop-i.invariant

pub returns-clause-front : goal.returns-clause-front
returns-clause-front c =
    let e : c.loop-i.i ≡ length c.args.line.now = omega arith in
    parts_front c.args.line.now c.loop-i.start (length c.args.line.now) (subst (PartsAt c.args.line.now c.loop-i.start) e c.loop-i.invariant)

pub loop-i-preserved : goal.loop-i-preserved
loop-i-preserved c =
    elim c.if-b-eq47.branch [
      | then-b-eq47+else-not-is_part w ↦
          subst (λ n. PartsAt c.args.line.now n (c.loop-i.i + 1)) (sym w.start-is)
          (parts_slash c.args.line.now c.loop-i.start c.loop-i.i c.loop-i.invariant (omega arith) w.if-b-eq47.true (sym w.if-not-is_part.ensures))
      | else-b-eq47 w ↦
          subst (λ n. PartsAt c.args.line.now n (c.loop-i.i + 1)) (sym w.start-is)
          (parts_on c.args.line.now c.loop-i.start c.loop-i.i c.loop-i.invariant (omega arith) w.if-b-eq47.false)
    ]
