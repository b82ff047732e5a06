use Rattle.rw_grammar.specs.ReadingLaws.{readings_are_one}
use Rattle.java_reader.specs.Reading.{java_rules, IsJavaCut}
use Rattle.java_reader.proofs.laws.readings_are_one.Goals as goal

pub returns : goal.returns
returns c = λ start bytes a b are one other.
    readings_are_one (IsJavaCut bytes) (c.texts_are_cut_one_way.ensures bytes are) java_rules
    c.java_rules_are_sound.ensures start bytes a b one other
