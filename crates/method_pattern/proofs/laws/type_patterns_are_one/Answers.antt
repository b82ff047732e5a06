use Rattle.method_pattern.proofs.OneType.{one_type_pattern}
use Rattle.method_pattern.proofs.laws.type_patterns_are_one.Goals as goal

pub returns : goal.returns
returns c = one_type_pattern
