use Rattle.rw_grammar.specs.ReadingLaws as reading_laws
use Rattle.rw_grammar.proofs.laws.outcomes_are_one.Goals as goal

pub returns : goal.returns
returns c rules sound start bytes leaves = reading_laws.outcomes_are_one rules sound start leaves bytes
