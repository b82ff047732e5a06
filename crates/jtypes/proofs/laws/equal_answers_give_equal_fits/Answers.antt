use Rattle.dialogue.specs.DialogueLaws.{run_alike, asked_alike}
use Rattle.jtypes.specs.Fits.{strict_fit, loose_fit}
use Rattle.jtypes.proofs.laws.equal_answers_give_equal_fits.Goals as goal

pub returns-clause-strict_gives : goal.returns-clause-strict_gives
returns-clause-strict_gives c w v a b = run_alike (strict_fit a b) w v

pub returns-clause-strict_asks : goal.returns-clause-strict_asks
returns-clause-strict_asks c w v a b = asked_alike (strict_fit a b) w v

pub returns-clause-loose_gives : goal.returns-clause-loose_gives
returns-clause-loose_gives c w v a b = run_alike (loose_fit a b) w v

pub returns-clause-loose_asks : goal.returns-clause-loose_asks
returns-clause-loose_asks c w v a b = asked_alike (loose_fit a b) w v
