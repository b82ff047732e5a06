use Rattle.std.proofs.Common.{inl, inr, arith}
use Rattle.journal_text.proofs.Characters.{by_bounds, below_bound, above_bound, first_stops, second_front, second_stops, third_front, third_stops, fourth_front, fourth_stops}
use Rattle.journal_text.proofs.stops.pending_len.Goals as goal

pub returns-then-first-lt194-clause-stops : goal.returns-then-first-lt194-clause-stops
returns-then-first-lt194-clause-stops c = λ before. first_stops c.args.line.now c.args.at c.requires before (inl (omega arith))

pub returns-then-first-gt244-clause-stops : goal.returns-then-first-gt244-clause-stops
returns-then-first-gt244-clause-stops c = λ before. first_stops c.args.line.now c.args.at c.requires before (inr (omega arith))

pub returns-then-line-at-clause-front : goal.returns-then-line-at-clause-front
returns-then-line-at-clause-front c = second_front c.args.line.now c.args.at c.requires (omega arith) (omega arith)

pub returns-then-line-at-2-clause-front : goal.returns-then-line-at-2-clause-front
returns-then-line-at-2-clause-front c = second_front c.args.line.now c.args.at c.requires (omega arith) (omega arith)

pub returns-then-line-at-2-clause-stops : goal.returns-then-line-at-2-clause-stops
returns-then-line-at-2-clause-stops c = λ before. second_stops c.args.line.now c.args.at c.requires before (omega arith) (omega arith) (below_bound _ _ (omega arith))

pub returns-then-second_most-line-clause-front : goal.returns-then-second_most-line-clause-front
returns-then-second_most-line-clause-front c = second_front c.args.line.now c.args.at c.requires (omega arith) (omega arith)

pub returns-then-second_most-line-clause-stops : goal.returns-then-second_most-line-clause-stops
returns-then-second_most-line-clause-stops c = λ before. second_stops c.args.line.now c.args.at c.requires before (omega arith) (omega arith) (above_bound _ _ (omega arith))

pub returns-then-line-at-3-clause-front : goal.returns-then-line-at-3-clause-front
returns-then-line-at-3-clause-front c = third_front c.args.line.now c.args.at c.requires (omega arith) (omega arith) (omega arith) (by_bounds _ _ (omega arith) (omega arith))

pub returns-then-line-at-lt128-clause-front : goal.returns-then-line-at-lt128-clause-front
returns-then-line-at-lt128-clause-front c = third_front c.args.line.now c.args.at c.requires (omega arith) (omega arith) (omega arith) (by_bounds _ _ (omega arith) (omega arith))

pub returns-then-line-at-lt128-clause-stops : goal.returns-then-line-at-lt128-clause-stops
returns-then-line-at-lt128-clause-stops c = λ before. third_stops c.args.line.now c.args.at c.requires before (omega arith) (omega arith) (by_bounds _ _ (omega arith) (omega arith)) (λ f. omega (arith, f))

pub returns-then-line-at-gt191-clause-front : goal.returns-then-line-at-gt191-clause-front
returns-then-line-at-gt191-clause-front c = third_front c.args.line.now c.args.at c.requires (omega arith) (omega arith) (omega arith) (by_bounds _ _ (omega arith) (omega arith))

pub returns-then-line-at-gt191-clause-stops : goal.returns-then-line-at-gt191-clause-stops
returns-then-line-at-gt191-clause-stops c = λ before. third_stops c.args.line.now c.args.at c.requires before (omega arith) (omega arith) (by_bounds _ _ (omega arith) (omega arith)) (λ f. omega (arith, f))

pub returns-clause-front : goal.returns-clause-front
returns-clause-front c = fourth_front c.args.line.now c.args.at c.requires (omega arith) (omega arith) (omega arith) (by_bounds _ _ (omega arith) (omega arith)) (omega arith, omega arith)

pub returns-clause-stops : goal.returns-clause-stops
returns-clause-stops c = λ before. fourth_stops c.args.line.now c.args.at c.requires before (omega arith) (omega arith) (omega arith) (by_bounds _ _ (omega arith) (omega arith)) (omega arith, omega arith)
