use Rattle.journal_text.proofs.FaultPlaces.{one_place}
use Rattle.journal_text.proofs.laws.a_fault_has_one_place.Goals as goal

pub returns : goal.returns
returns c = one_place
