use Rattle.rw_base.specs.RankedEdits.{ranked_are_edits}
use Rattle.rw_base.proofs.rearranging.ranked_edits_are_edits.Goals as goal

pub returns : goal.returns
returns c = ranked_are_edits
