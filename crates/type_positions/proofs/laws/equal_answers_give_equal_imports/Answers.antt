use Rattle.dialogue.specs.DialogueLaws.{run_alike, asked_alike}
use Rattle.type_positions.specs.Declarations.{imported}
use Rattle.type_positions.proofs.laws.equal_answers_give_equal_imports.Goals as goal

pub returns-clause-gives : goal.returns-clause-gives
returns-clause-gives c w v cx is_static first parts = run_alike (imported cx is_static first parts) w v

pub returns-clause-asks : goal.returns-clause-asks
returns-clause-asks c w v cx is_static first parts = asked_alike (imported cx is_static first parts) w v
