use Rattle.std.specs.Prelude.{is_some}
use Rattle.std.proofs.Common.{refl, ap, ◌∙◌, arith}
use Rattle.kept_files.specs.declared.file.KeptFile.{KeptFile}
use Rattle.rewrite_cli.proofs.ReportSteps.{read_more, read_end, one_small}
use Rattle.rewrite_cli.proofs.report.count_read_in.Goals as goal

pub loop-at-preserved : goal.loop-at-preserved
loop-at-preserved c = record {
  counted =
      read_more c.args.files.now c.loop-at.at c.index-files-at.result c.is_some.result c.loop-at.count _ c.one_if-count.result _
      (omega (arith, c.loop-at-test.true)) c.index-files-at.is (c.is_some.ensures ∙ ap (λ (f : KeptFile). is_some f.bytes) c.get.ensures) c.one_if-count.ensures refl c.loop-at.invariant.counted;
  below = omega (arith, c.loop-at.invariant.below, one_small c.is_some.result c.one_if-count.result c.one_if-count.ensures);
}

pub returns : goal.returns
returns c = read_end c.args.files.now c.loop-at.at c.loop-at.count _ (omega (arith, c.loop-at-test.false)) c.loop-at.invariant.counted
