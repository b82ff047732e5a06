use Rattle.method_pattern.proofs.OnePattern.{one_method_pattern}
use Rattle.method_pattern.proofs.laws.method_patterns_are_one.Goals as goal

pub returns : goal.returns
returns c = one_method_pattern
