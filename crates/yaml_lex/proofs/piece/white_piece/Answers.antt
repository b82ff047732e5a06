use Rattle.std.proofs.Common.{◌∙◌, sym}
use Rattle.yaml_lex.proofs.Passing.{end-passes, run-passes, spaces-passes, tab-here}
use Rattle.yaml_lex.proofs.Pieces.{bad-tab}
use Rattle.yaml_lex.proofs.piece.white_piece.Goals as goal

pub returns-then-is_line_end : goal.returns-then-is_line_end
returns-then-is_line_end c = λ broken os. end-passes c.args.context c.args.text.now c.requires (sym c.is_line_end.ensures ∙ c.if-is_line_end.true)

pub returns-then-not-forbids_tab : goal.returns-then-not-forbids_tab
returns-then-not-forbids_tab c = λ broken os.
    run-passes c.args.context c.args.text.now c.blanks_size.result c.requires (sym c.is_line_end.ensures ∙ c.if-is_line_end.false) c.blanks_size.ensures
    (sym c.forbids_tab.ensures ∙ c.if-not-forbids_tab.true)

pub returns-then-spaces-eq0 : goal.returns-then-spaces-eq0
returns-then-spaces-eq0 c = λ broken os.
    bad-tab broken c.args.context os c.args.text.now
    (tab-here c.args.context c.args.text.now c.requires (sym c.is_line_end.ensures ∙ c.if-is_line_end.false) (sym c.indentation-spaces.ensures.value ∙ c.if-spaces-eq0.true)
    (sym c.forbids_tab.ensures ∙ c.if-not-forbids_tab.false))

pub returns : goal.returns
returns c = λ broken os. spaces-passes c.args.context c.args.text.now c.indentation-spaces.result c.indentation-spaces.ensures.value c.if-spaces-eq0.false c.indentation-spaces.ensures.inside
