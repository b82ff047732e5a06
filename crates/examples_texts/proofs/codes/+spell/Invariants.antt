use Rattle.std.proofs.Common.{length}
use Rattle.examples_texts.proofs.codes.+spell.Given as goal

abbrev pub decreases-spell : goal.decreases-spell
decreases-spell l = length l.codes.now
