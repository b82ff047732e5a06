use Rattle.std.proofs.Common.{◌++◌, ap, ◌∙◌}
use Rattle.rewrite_cli.proofs.HistorySteps.{run_by}
use Rattle.rewrite_cli.proofs.histories.put_run.Goals as goal

pub returns : goal.returns
returns c =
    run_by c.args.run.now _ _ _ _ _ _ _ _ _ _ _ c.in_ok-put_number.ensures c.in_ok-extend_from_slice.ensures.items (c.in_ok-extend_from_slice-2.ensures.items ∙ ap (λ r. c.extend_from_slice.new.self.items ++ r) c.as_slice.ensures)
    c.in_ok-put_count.ensures c.in_ok-put_count-2.ensures c.in_ok-put_count-3.ensures c.in_ok-put_count-4.ensures c.in_ok-extend_from_slice-3.ensures.items c.in_ok-put_digest.ensures
    c.in_ok-extend_from_slice-4.ensures.items
