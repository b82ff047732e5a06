use Rattle.dialogue.specs.DialogueLaws.{run_alike, asked_alike}
use Rattle.judged_trees.specs.Trees.{judged}
use Rattle.judged_trees.proofs.laws.equal_answers_give_equal_judgements.Goals as goal

pub returns-clause-gives : goal.returns-clause-gives
returns-clause-gives g c t site around w v = run_alike (judged t site around) w v

pub returns-clause-asks : goal.returns-clause-asks
returns-clause-asks g c t site around w v = asked_alike (judged t site around) w v
