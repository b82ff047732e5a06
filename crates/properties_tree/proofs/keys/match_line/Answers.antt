use Rattle.std.proofs.Common.{◌∙◌}
use Rattle.properties_tree.specs.Decoding.{key_text, entry_at}
use Rattle.properties_tree.proofs.First.{no_slash_in}
use Rattle.properties_tree.proofs.Keyed.{passed_kept, key_bytes, entry_kept, has_it, told_by}
use Rattle.properties_tree.proofs.keys.match_line.Goals as goal

pub says_key-requires-clause-part : goal.says_key-requires-clause-part
says_key-requires-clause-part c = key_bytes c.args.text.now c.key_place-place.result c.key_place-place.ensures.place

pub says_key-requires-clause-plain : goal.says_key-requires-clause-plain
says_key-requires-clause-plain c =
    no_slash_in c.args.text.now c.in-Entry.start c.in-Entry.ensures c.key_place-place.result.from c.key_place-place.result.to
    c.key_place-place.ensures.from c.key_place-place.ensures.to

pub returns-in-Passed : goal.returns-in-Passed
returns-in-Passed c = passed_kept c.args.key.now c.args.text.now c.in-Passed.size c.in-Passed.ensures

pub returns-then-branch : goal.returns-then-branch
returns-then-branch c =
    has_it c.args.text.now c.key_place-place.result c.key_place-place.ensures.place c.args.key.now
    (told_by c.in_ok-says_key-in-Entry.field-0 (key_text (entry_at c.args.text.now 0)) c.args.key.now c.in_ok-says_key-in-Entry.ensures ∙ c.if-branch.true)

pub returns-else-branch : goal.returns-else-branch
returns-else-branch c =
    entry_kept c.args.text.now c.key_place-place.result c.key_place-place.ensures.place c.args.key.now
    (told_by c.in_ok-says_key-in-Entry.field-0 (key_text (entry_at c.args.text.now 0)) c.args.key.now c.in_ok-says_key-in-Entry.ensures ∙ c.if-branch.false)
