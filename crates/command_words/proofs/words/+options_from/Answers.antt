use Rattle.std.specs.Prelude.{map, string_bytes}
use Rattle.std.specs.Option.{option_map}
use Rattle.command_words.specs.Taken.{options_told}
use Rattle.command_words.proofs.WordSteps.{one_off, two_on, two_off}
use Rattle.command_words.proofs.words.+options_from.Goals as goal

pub returns-in-None-with : goal.returns-in-None-with
returns-in-None-with m c =
    one_off (map string_bytes c.args.words.now) c.in-Some.word.now (map string_bytes c.in-Some.rest.now) (options_told c.args.taken) c.with.result
    c.in-Some-cut_at_equals.name.now c.in-Some-cut_at_equals.value.now c.in-Some.ensures.first c.in-Some-cut_at_equals.ensures c.with.ensures c.in-None-with.is

pub returns-in-Some-with-2 : goal.returns-in-Some-with-2
returns-in-Some-with-2 m c =
    two_on (map string_bytes c.args.words.now) c.in-Some.word.now (map string_bytes c.in-Some-first_of.rest.now) (options_told c.args.taken) c.with-in-Some-first_of.result
    c.in-Some-with-2.more (option_map options_told c.options_from-in-Some-with-2.result) c.in-Some-first_of.value.now (map string_bytes c.in-Some.rest.now)
    c.in-Some.ensures.first c.in-Some-first_of.ensures.first c.in-None.ensures c.with-in-Some-first_of.ensures c.in-Some-with-2.is c.options_from-in-Some-with-2.ensures

pub returns-in-None-with-2 : goal.returns-in-None-with-2
returns-in-None-with-2 m c =
    two_off (map string_bytes c.args.words.now) c.in-Some.word.now (map string_bytes c.in-Some-first_of.rest.now) (options_told c.args.taken) c.with-in-Some-first_of.result
    c.in-Some-first_of.value.now (map string_bytes c.in-Some.rest.now)
    c.in-Some.ensures.first c.in-Some-first_of.ensures.first c.in-None.ensures c.with-in-Some-first_of.ensures c.in-None-with-2.is
