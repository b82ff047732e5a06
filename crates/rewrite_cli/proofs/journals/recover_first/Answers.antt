use Rattle.std.proofs.Common.{Err, ap, ◌∙◌}
use Rattle.rewrite_cli.proofs.JournalSteps.{called_none, damage_is, is_read_fault, is_write_fault, one_batch, one_place, recovery_done, recovery_stopped, same_stop, stop_told, write_fault_stops}
use Rattle.rewrite_cli.proofs.journals.recover_first.Goals as goal

pub returns-in-Ok-clause-end : goal.returns-in-Ok-clause-end
returns-in-Ok-clause-end g c = λ told meanings are.
    let before = g.S.Store.files c.args.store.now in
    let made = c.in-Ok.ensures.files told in
    recovery_done (one_batch c.a_batch_has_one_spelling.ensures) (called_none c.damaged_files_stand_for_nothing.ensures c.called_changes_make_the_repository.ensures)
    (meanings.journal before) before (g.S.Store.files c.recover.new.store) c.in-Ok.count made.0 (are.journal before) made.1

pub returns-in-Err-clause-end : goal.returns-in-Err-clause-end
returns-in-Err-clause-end g c = λ told meanings are.
    let before = g.S.Store.files c.args.store.now in
    recovery_stopped (meanings.journal before) before (g.S.Store.files c.recover.new.store) c.stop_of.result
    (stop_told (meanings.journal before) c.in-Err.fault c.stop_of.result
    (λ at e. damage_is (one_place c.a_fault_has_one_place.ensures) (called_none c.damaged_files_stand_for_nothing.ensures c.called_changes_make_the_repository.ensures) (meanings.journal before) before at (are.journal before)
    (c.recover.ensures.damaged told at (c.in-Err.is ∙ ap Err e))) c.stop_of.ensures)

pub returns-in-Err-clause-read_fault : goal.returns-in-Err-clause-read_fault
returns-in-Err-clause-read_fault g c = λ e. c.recover.ensures.read_cause (c.in-Err.is ∙ ap Err (is_read_fault c.in-Err.fault c.stop_of.result c.stop_of.ensures (same_stop c.stop_of.result _ e)))

pub returns-in-Err-clause-write_fault : goal.returns-in-Err-clause-write_fault
returns-in-Err-clause-write_fault g c = λ e. c.recover.ensures.write_cause (c.in-Err.is ∙ ap Err (is_write_fault c.in-Err.fault c.stop_of.result c.stop_of.ensures (same_stop c.stop_of.result _ e)))

pub returns-in-Err-clause-unchanged : goal.returns-in-Err-clause-unchanged
returns-in-Err-clause-unchanged g c = λ n. c.in-Err.ensures.unwritten (λ w. n (write_fault_stops c.in-Err.fault c.stop_of.result c.stop_of.ensures w))
