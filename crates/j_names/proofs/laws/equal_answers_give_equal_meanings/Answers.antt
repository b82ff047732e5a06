use Rattle.dialogue.specs.DialogueLaws.{run_alike, asked_alike}
use Rattle.j_names.specs.Names.{type_named, variable_named, meaning_of}
use Rattle.j_names.proofs.laws.equal_answers_give_equal_meanings.Goals as goal

pub returns-clause-gives : goal.returns-clause-gives
returns-clause-gives c w v cx frames n = run_alike (meaning_of cx frames n) w v

pub returns-clause-asks : goal.returns-clause-asks
returns-clause-asks c w v cx frames n = asked_alike (meaning_of cx frames n) w v

pub returns-clause-gives_type : goal.returns-clause-gives_type
returns-clause-gives_type c w v cx frames n = run_alike (type_named cx frames n) w v

pub returns-clause-gives_variable : goal.returns-clause-gives_variable
returns-clause-gives_variable c w v cx frames n = run_alike (variable_named cx frames n) w v
