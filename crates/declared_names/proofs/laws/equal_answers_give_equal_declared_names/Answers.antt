use Rattle.declared_names.specs.Cases.{case_name}
use Rattle.declared_names.specs.Declarations.{declared_field, declared_constant, declared_method, declared_constructor}
use Rattle.declared_names.specs.Elements.{element}
use Rattle.judging.specs.JudgingLaws.{decided}
use Rattle.declared_names.proofs.laws.equal_answers_give_equal_declared_names.Goals as goal

pub returns-clause-field : goal.returns-clause-field
returns-clause-field c class leaf n ty = decided (declared_field class leaf n ty)

pub returns-clause-constant : goal.returns-clause-constant
returns-clause-constant c class leaf n = decided (declared_constant class leaf n)

pub returns-clause-method : goal.returns-clause-method
returns-clause-method c class leaf n ps = decided (declared_method class leaf n ps)

pub returns-clause-constructor : goal.returns-clause-constructor
returns-clause-constructor c class leaf ps = decided (declared_constructor class leaf ps)

pub returns-clause-element : goal.returns-clause-element
returns-clause-element c cx annotation leaf n = decided (element cx annotation leaf n)

pub returns-clause-case : goal.returns-clause-case
returns-clause-case c selector leaf n = decided (case_name selector leaf n)
