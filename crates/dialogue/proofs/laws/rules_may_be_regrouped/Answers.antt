use Rattle.dialogue.specs.DialogueLaws.{bind-assoc, bind-done}
use Rattle.dialogue.proofs.laws.rules_may_be_regrouped.Goals as goal

pub returns-clause-regroups : goal.returns-clause-regroups
returns-clause-regroups g c = bind-assoc

pub returns-clause-last : goal.returns-clause-last
returns-clause-last g c = bind-done
