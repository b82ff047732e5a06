use Rattle.std.proofs.Common.{◌++◌, ◌∙◌, ap, arith}
use Rattle.scheduler.specs.Runs.{refusal_of}
use Rattle.rewrite_cli.proofs.Weaving.{told_more, told_end}
use Rattle.rewrite_cli.proofs.opening.push_files.Goals as goal

pub loop-file-preserved : goal.loop-file-preserved
loop-file-preserved c =
    told_more c.args.files.now c.loop-file.file-index c.file-item.result c.loop-file.events.items c.push_file.new.events.items _
    (omega (arith, c.loop-file-test.true)) c.file-item.is (c.in_ok-push_file.ensures ∙ ap (λ f. c.loop-file.events.items ++ refusal_of f) c.get.ensures) c.loop-file.invariant

pub returns : goal.returns
returns c = told_end c.args.files.now c.loop-file.file-index c.loop-file.events.items _ (omega (arith, c.loop-file-test.false)) c.loop-file.invariant
