use Rattle.dialogue.specs.DialogueLaws.{first_found-in_turn, first_found-append, first_found-filter}
use Rattle.dialogue.proofs.laws.the_first_found_is_a_loop.Goals as goal

pub returns-clause-is_loop : goal.returns-clause-is_loop
returns-clause-is_loop g c = first_found-in_turn

pub returns-clause-goes_on : goal.returns-clause-goes_on
returns-clause-goes_on g c = first_found-append

pub returns-clause-few : goal.returns-clause-few
returns-clause-few g c = first_found-filter
