use Rattle.std.proofs.Common.{ap, ◌∙◌}
use Rattle.method_pattern.specs.PartsLeft.{parts_left}
use Rattle.method_pattern.proofs.names.behind_part.Goals as goal

pub returns-in-Some : goal.returns-in-Some
returns-in-Some c = (c.split_part.result.0.now, ap parts_left c.in-Some.is ∙ c.split_part.ensures)
