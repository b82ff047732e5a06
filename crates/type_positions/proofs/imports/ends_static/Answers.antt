use Rattle.std.proofs.Common.{refl}
use Rattle.type_positions.proofs.ImportSteps.{end_is}
use Rattle.type_positions.proofs.imports.ends_static.Goals as goal

pub returns-then-is_static : goal.returns-then-is_static
returns-then-is_static c = rw c.if-is_static.true (end_is c.args.parts.now c.args.at c.requires)

pub returns-else-is_static : goal.returns-else-is_static
returns-else-is_static c = rw c.if-is_static.false refl
