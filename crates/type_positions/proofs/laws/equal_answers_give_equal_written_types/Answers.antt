use Rattle.dialogue.specs.DialogueLaws.{run_alike, asked_alike}
use Rattle.type_positions.specs.WrittenTypes.{written_type}
use Rattle.type_positions.proofs.laws.equal_answers_give_equal_written_types.Goals as goal

pub returns-clause-gives : goal.returns-clause-gives
returns-clause-gives c w v cx frames t = run_alike (written_type cx frames t) w v

pub returns-clause-asks : goal.returns-clause-asks
returns-clause-asks c w v cx frames t = asked_alike (written_type cx frames t) w v
