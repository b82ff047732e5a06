use Rattle.std.proofs.Common.{sym, ◌∙◌}
use Rattle.std.proofs.lemmas.List.{take_rest}
use Rattle.yaml_lex.proofs.Heads.{is-head, no-head, head-line}
use Rattle.yaml_lex.proofs.block.head_size.Goals as goal

pub returns-then-not-is_head_over-clause-head : goal.returns-then-not-is_head_over-clause-head
returns-then-not-is_head_over-clause-head c =
    no-head c.args.text.now _ c.signs_size-signs.result c.signs_size-signs.ensures.value (take_rest c.args.text.now c.signs_size-signs.result)
    (sym c.is_head_over.ensures ∙ c.if-not-is_head_over.true)

pub returns : goal.returns
returns c = record {
  head = is-head c.args.text.now _ c.signs_size-signs.result c.line_size.result c.signs_size-signs.ensures.value (take_rest c.args.text.now c.signs_size-signs.result)
      (sym c.is_head_over.ensures ∙ c.if-not-is_head_over.false) c.line_size.ensures;
  line = head-line c.args.text.now _ c.signs_size-signs.result c.line_size.result c.signs_size-signs.ensures.inside (take_rest c.args.text.now c.signs_size-signs.result)
      c.line_size.ensures;
}
