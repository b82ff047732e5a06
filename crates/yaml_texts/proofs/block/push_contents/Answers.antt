use Rattle.std.proofs.Common.{List, ◌++◌, sym, ◌∙◌, ap, append-nil}
use Rattle.rw_base.specs.NaturalLines.{Line}
use Rattle.yaml_texts.specs.Texts.{contents_of}
use Rattle.yaml_texts.proofs.FurtherLines.{further_run}
use Rattle.yaml_texts.proofs.BlockTexts.{no_lines}
use Rattle.yaml_texts.proofs.block.push_contents.Goals as goal

pub loop-at-init : goal.loop-at-init
loop-at-init c = record {
  ends = c.line_size-at.ensures.ends;
  same = ap (λ (ls : List Line). c.args.out.now.items ++ contents_of c.args.lost ls) (further_run c.args.text.now c.line_size-at.result c.line_size-at.ensures);
}

pub returns : goal.returns
returns c =
    sym (append-nil c.loop-at.out.items)
    ∙ (sym (ap (λ (ls : List Line). c.loop-at.out.items ++ contents_of c.args.lost ls) (no_lines c.args.text.now c.loop-at.at c.loop-at-test.false)) ∙ c.loop-at.invariant.same)
