use Rattle.dialogue.specs.DialogueLaws.{run_alike}
use Rattle.j_names.specs.Members.{field_of, member_type_of, methods_of}
use Rattle.j_names.proofs.laws.equal_answers_give_equal_walks.Goals as goal

pub returns-clause-field : goal.returns-clause-field
returns-clause-field c w v top n name = run_alike (field_of top n name) w v

pub returns-clause-member_type : goal.returns-clause-member_type
returns-clause-member_type c w v top n name = run_alike (member_type_of top n name) w v

pub returns-clause-methods : goal.returns-clause-methods
returns-clause-methods c w v top n name = run_alike (methods_of top n name) w v
