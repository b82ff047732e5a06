use Rattle.std.proofs.Common.{◌∙◌, sym, reverse}
use Rattle.yaml_lex.proofs.Pieces.{is-leaf, bad-refused}
use Rattle.yaml_lex.proofs.TextLaws.{text-inside}
use Rattle.yaml_lex.proofs.piece.leaf_piece.Goals as goal

pub class_of-class-requires-clause-inside : goal.class_of-class-requires-clause-inside
class_of-class-requires-clause-inside c =
    (text-inside c.form_of-form.result c.args.context (reverse c.args.collections.now) c.args.text.now c.in-Some.size c.form_of-form.ensures c.requires.place.some c.in-Some.ensures).1

pub returns-then-is_refused : goal.returns-then-is_refused
returns-then-is_refused c =
    bad-refused c.args.broken c.args.context (reverse c.args.collections.now) c.args.text.now c.form_of-form.result c.class_of-class.result c.in-Some.size c.form_of-form.ensures c.requires.place
    c.in-Some.ensures c.class_of-class.ensures (sym c.is_refused.ensures ∙ c.if-is_refused.true)

pub returns-else-is_refused : goal.returns-else-is_refused
returns-else-is_refused c =
    is-leaf c.args.broken c.args.context (reverse c.args.collections.now) c.args.text.now c.form_of-form.result c.class_of-class.result c.in-Some.size c.form_of-form.ensures c.requires.place
    c.in-Some.ensures c.class_of-class.ensures (sym c.is_refused.ensures ∙ c.if-is_refused.false)
