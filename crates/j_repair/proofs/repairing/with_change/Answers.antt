use Rattle.std.proofs.Common.{◌≡◌, ◌∙◌}
use Rattle.j_repair.proofs.Kept.{changed_put, changed_remove}
use Rattle.j_repair.proofs.repairing.with_change.Goals as goal

pub returns-in_ok-put_file-in-Put-clause-changed : goal.returns-in_ok-put_file-in-Put-clause-changed
returns-in_ok-put_file-in-Put-clause-changed g c read are =
    changed_put read c.args.change c.args.files.items c.put_file.new.files.items c.in-Put.path c.in-Put.bytes c.from_vec.result c.in_ok-file-in-Put.file c.in_ok-new-in-Put.field-0
    c.in-Put.is c.from_vec.ensures (c.in_ok-file-in-Put.ensures.is read are) c.in_ok-new-in-Put.ensures c.in_ok-put_file-in-Put.ensures.put

pub returns-in_ok-left-in-Remove-clause-changed : goal.returns-in_ok-left-in-Remove-clause-changed
returns-in_ok-left-in-Remove-clause-changed g c read are =
    changed_remove read c.args.change c.args.files.items c.in_ok-left-in-Remove.left.items c.in-Remove.path c.as_slice.result.now
    c.in-Remove.is c.as_slice.ensures.value c.in_ok-left-in-Remove.ensures
