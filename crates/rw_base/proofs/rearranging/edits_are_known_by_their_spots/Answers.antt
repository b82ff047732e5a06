use Rattle.rw_base.specs.SameEdits.{same_text}
use Rattle.rw_base.proofs.rearranging.edits_are_known_by_their_spots.Goals as goal

pub returns : goal.returns
returns c = same_text
