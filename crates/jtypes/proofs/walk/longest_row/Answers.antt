use Rattle.std.proofs.Common.{refl}
use Rattle.jtypes.specs.Subtype.{longest_row}
use Rattle.jtypes.proofs.walk.longest_row.Goals as goal

pub returns : goal.returns
unfolding longest_row
returns c = refl
