use Rattle.std.proofs.Common.{sym, ◌∙◌, ap}
use Rattle.yaml_texts.specs.Texts.{first_indentation}
use Rattle.yaml_texts.proofs.FurtherLines.{further_run}
use Rattle.yaml_texts.proofs.BlockTexts.{no_lines}
use Rattle.yaml_texts.proofs.block.first_indentation.Goals as goal

pub loop-at-init : goal.loop-at-init
loop-at-init c = record {
  ends = c.line_size-at.ensures.ends;
  same = ap first_indentation (further_run c.args.text.now c.line_size-at.result c.line_size-at.ensures);
}

pub returns : goal.returns
returns c = sym (ap first_indentation (no_lines c.args.text.now c.loop-at.at c.loop-at-test.false)) ∙ c.loop-at.invariant.same
