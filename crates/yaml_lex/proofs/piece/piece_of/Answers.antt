use Rattle.std.proofs.Common.{◌∙◌, sym, reverse}
use Rattle.yaml_lex.proofs.Passing.{comment-passes}
use Rattle.yaml_lex.proofs.piece.piece_of.Goals as goal

pub returns-in-len1-up : goal.returns-in-len1-up
returns-in-len1-up c = c.white_piece.ensures c.args.broken (reverse c.args.collections.now)

pub returns-in_default : goal.returns-in_default
returns-in_default c = comment-passes c.args.context c.args.text.now c.line_size.result (sym c.begins_comment.ensures ∙ c.if-begins_comment.true) c.line_size.ensures
