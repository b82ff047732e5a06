use Rattle.std.proofs.Common.{subst}
use Rattle.dialogue.specs.Dialogue.{run}
use Rattle.j_overload.specs.Choices.{Chosen}
use Rattle.j_overload.specs.Rules.{choice_of}
use Rattle.j_overload.proofs.Decided.{chosen_by_rule, one_choice}
use Rattle.j_overload.proofs.laws.the_rule_decides_the_choice.Goals as goal

pub returns : goal.returns
returns c w candidates args choice = (
  λ e. subst (Chosen w candidates args) e (chosen_by_rule w candidates args),
  λ h. one_choice w candidates args (run (choice_of candidates args) w) choice (chosen_by_rule w candidates args) h,
)
