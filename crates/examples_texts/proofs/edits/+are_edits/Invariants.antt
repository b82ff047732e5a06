use Rattle.std.proofs.Common.{length}
use Rattle.examples_texts.proofs.edits.+are_edits.Given as goal

abbrev pub decreases-are_edits : goal.decreases-are_edits
decreases-are_edits l = length l.edits.now
