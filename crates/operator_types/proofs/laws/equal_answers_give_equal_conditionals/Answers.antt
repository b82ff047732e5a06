use Rattle.dialogue.specs.DialogueLaws.{run_alike, asked_alike}
use Rattle.operator_types.specs.Conditional.{conditional}
use Rattle.operator_types.proofs.laws.equal_answers_give_equal_conditionals.Goals as goal

pub returns-clause-gives : goal.returns-clause-gives
returns-clause-gives c w v a b = run_alike (conditional a b) w v

pub returns-clause-asks : goal.returns-clause-asks
returns-clause-asks c w v a b = asked_alike (conditional a b) w v
