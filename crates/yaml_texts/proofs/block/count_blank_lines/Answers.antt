use Rattle.std.proofs.Common.{refl, sym, ◌∙◌, ap, arith}
use Rattle.yaml_texts.specs.Texts.{blank_lines}
use Rattle.yaml_texts.proofs.FurtherLines.{further_run}
use Rattle.yaml_texts.proofs.BlockTexts.{no_lines, counted}
use Rattle.yaml_texts.proofs.block.count_blank_lines.Goals as goal

pub loop-at-init : goal.loop-at-init
loop-at-init c = record {
  ends = c.line_size-at.ensures.ends;
  few = omega arith;
  inside = c.line_size-at.ensures.inside;
  same = omega (arith, ap blank_lines (further_run c.args.text.now c.line_size-at.result c.line_size-at.ensures));
}

pub loop-at-preserved : goal.loop-at-preserved
loop-at-preserved c =
    let next = c.next_line-from.ensures in
    let more = counted c.args.text.now c.loop-at.at c.next_line-from.result.0 c.next_line-from.result.1 next _ refl
    (sym c.is_blank_line.ensures ∙ c.if-not-is_blank_line.false) (omega (arith, next.inside, c.if-to-text.false)) in
    record {
      ends = next.ends;
      few = omega (arith, next.further, next.order, c.loop-at.invariant.few);
      inside = next.inside;
      same = omega (arith, more, c.loop-at.invariant.same);
    }

pub returns : goal.returns
returns c = omega (arith, ap blank_lines (no_lines c.args.text.now c.loop-at.at c.loop-at-test.false), c.loop-at.invariant.same)
