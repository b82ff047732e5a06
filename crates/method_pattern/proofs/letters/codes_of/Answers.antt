use Rattle.std.proofs.Common.{arith}
use Rattle.method_pattern.proofs.LetterSteps.{lead, no_lead, two_lead, three_lead, four_lead}
use Rattle.method_pattern.proofs.letters.codes_of.Goals as goal

pub returns-then-b-lt192 : goal.returns-then-b-lt192
returns-then-b-lt192 c d more e = absurd (no_lead d c.args.first (lead d _ more e) c.requires (omega arith))

pub returns-then-b-lt224 : goal.returns-then-b-lt224
returns-then-b-lt224 c d more e = two_lead d c.args.first (lead d _ more e) (omega arith) (omega arith)

pub returns-then-b-lt240 : goal.returns-then-b-lt240
returns-then-b-lt240 c d more e = three_lead d c.args.first (lead d _ more e) (omega arith) (omega arith)

pub returns-else-b-lt240 : goal.returns-else-b-lt240
returns-else-b-lt240 c d more e = four_lead d c.args.first (lead d _ more e) (omega arith)
