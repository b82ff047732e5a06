use Rattle.dialogue.specs.DialogueLaws.{in_turn-append, each-append, each-in_turn}
use Rattle.dialogue.proofs.laws.loops_may_stop_and_go_on.Goals as goal

pub returns-clause-in_turn : goal.returns-clause-in_turn
returns-clause-in_turn g c = in_turn-append

pub returns-clause-each : goal.returns-clause-each
returns-clause-each g c = each-append

pub returns-clause-gathers : goal.returns-clause-gathers
returns-clause-gathers g c = each-in_turn
