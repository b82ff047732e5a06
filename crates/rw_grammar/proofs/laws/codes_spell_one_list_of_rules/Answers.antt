use Rattle.rw_grammar.proofs.Spelling.{one_spelling, spelled_are_read}
use Rattle.rw_grammar.proofs.laws.codes_spell_one_list_of_rules.Goals as goal

pub returns-clause-one : goal.returns-clause-one
returns-clause-one c = one_spelling

pub returns-clause-read : goal.returns-clause-read
returns-clause-read c = spelled_are_read
