use Rattle.dialogue.specs.DialogueLaws.{run_alike, asked_alike}
use Rattle.j_overload.specs.Rules.{choice_of}
use Rattle.j_overload.proofs.laws.equal_answers_give_equal_choices.Goals as goal

pub returns-clause-gives : goal.returns-clause-gives
returns-clause-gives c w v candidates args = run_alike (choice_of candidates args) w v

pub returns-clause-asks : goal.returns-clause-asks
returns-clause-asks c w v candidates args = asked_alike (choice_of candidates args) w v
