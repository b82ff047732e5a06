use Rattle.expression_names.specs.Bodies.{super_type, qualified_super, this_call, super_call}
use Rattle.expression_names.specs.Calls.{call, call_behind, constructing}
use Rattle.expression_names.specs.Primaries.{simple_name, name_behind}
use Rattle.judging.specs.JudgingLaws.{decided}
use Rattle.expression_names.proofs.laws.equal_answers_give_equal_expression_names.Goals as goal

pub returns-clause-simple_name : goal.returns-clause-simple_name
returns-clause-simple_name c cx frames leaf n = decided (simple_name cx frames leaf n)

pub returns-clause-name_behind : goal.returns-clause-name_behind
returns-clause-name_behind c cx before leaf n = decided (name_behind cx before leaf n)

pub returns-clause-call : goal.returns-clause-call
returns-clause-call c cx frames leaf n args = decided (call cx frames leaf n args)

pub returns-clause-call_behind : goal.returns-clause-call_behind
returns-clause-call_behind c cx before leaf n args = decided (call_behind cx before leaf n args)

pub returns-clause-constructing : goal.returns-clause-constructing
returns-clause-constructing c cx class leaf args = decided (constructing cx class leaf args)

pub returns-clause-this_call : goal.returns-clause-this_call
returns-clause-this_call c cx whose leaf args = decided (this_call cx whose leaf args)

pub returns-clause-super_call : goal.returns-clause-super_call
returns-clause-super_call c cx whose leaf args = decided (super_call cx whose leaf args)

pub returns-clause-super_type : goal.returns-clause-super_type
returns-clause-super_type c whose = decided (super_type whose)

pub returns-clause-qualified_super : goal.returns-clause-qualified_super
returns-clause-qualified_super c before = decided (qualified_super before)
