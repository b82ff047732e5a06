use Rattle.dialogue.specs.DialogueLaws.{run_alike, asked_alike}
use Rattle.jtypes.specs.Subtype.{subtype}
use Rattle.jtypes.proofs.laws.equal_answers_give_equal_subtypes.Goals as goal

pub returns-clause-gives : goal.returns-clause-gives
returns-clause-gives c w v a b = run_alike (subtype a b) w v

pub returns-clause-asks : goal.returns-clause-asks
returns-clause-asks c w v a b = asked_alike (subtype a b) w v
