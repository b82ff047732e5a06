use Rattle.std.proofs.Common.{Some, ap, ◌∙◌}
use Rattle.rewrite_cli.proofs.Batches.{file_pushed}
use Rattle.rewrite_cli.proofs.changes.push_written.Goals as goal

pub returns-in_ok-push-2 : goal.returns-in_ok-push-2
returns-in_ok-push-2 c =
    file_pushed c.args.out.now.items _ (record { path = c.in_ok-path.path; bytes = Some c.in_ok-from_slice.field-0 }) c.args.file.now c.in_ok-push-2.ensures.items c.in_ok-path.ensures
    c.args.is_removal c.in-Some.bytes c.if-is_removal.false c.in-Some.is (ap Some (c.in_ok-from_slice.ensures.items ∙ (c.as_slice.ensures ∙ c.get.ensures)))
