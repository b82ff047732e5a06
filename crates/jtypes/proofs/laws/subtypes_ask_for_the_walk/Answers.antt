use Rattle.jtypes.proofs.WalkQuestions.{subtype_asks, elements_ask}
use Rattle.jtypes.proofs.laws.subtypes_ask_for_the_walk.Goals as goal

pub returns-clause-walk : goal.returns-clause-walk
returns-clause-walk c = subtype_asks

pub returns-clause-elements : goal.returns-clause-elements
returns-clause-elements c = elements_ask
