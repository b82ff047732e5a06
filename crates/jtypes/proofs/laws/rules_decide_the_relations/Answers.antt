use Rattle.jtypes.proofs.Deciding.{subtype_true, subtype_all, strict_true, strict_all, loose_true, loose_all}
use Rattle.jtypes.proofs.laws.rules_decide_the_relations.Goals as goal

pub returns-clause-subtype : goal.returns-clause-subtype
returns-clause-subtype c w a b = (subtype_true w a b, subtype_all w a b)

pub returns-clause-strict_fit : goal.returns-clause-strict_fit
returns-clause-strict_fit c w a b = (strict_true w a b, strict_all w a b)

pub returns-clause-loose_fit : goal.returns-clause-loose_fit
returns-clause-loose_fit c w a b = (loose_true w a b, loose_all w a b)
