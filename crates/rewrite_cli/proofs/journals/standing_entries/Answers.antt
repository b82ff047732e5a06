use Rattle.std.proofs.Common.{Err, ap, ◌∙◌}
use Rattle.rewrite_cli.proofs.JournalSteps.{called_none, damage_is, is_read_fault, is_write_fault, one_batch, one_place, same_stop_of, standing_done, standing_stopped, stop_told}
use Rattle.rewrite_cli.proofs.journals.standing_entries.Goals as goal

pub returns-in-Ok-clause-end : goal.returns-in-Ok-clause-end
returns-in-Ok-clause-end g c = λ told meanings are.
    let before = g.S.Store.files c.args.store.now in
    standing_done (one_batch c.a_batch_has_one_spelling.ensures) (called_none c.damaged_files_stand_for_nothing.ensures c.called_changes_make_the_repository.ensures)
    (meanings.journal before) before c.in-Ok.entries (are.journal before) (c.in-Ok.ensures.entries told)

pub returns-in-Err-clause-end : goal.returns-in-Err-clause-end
returns-in-Err-clause-end g c = λ told meanings are.
    let before = g.S.Store.files c.args.store.now in
    standing_stopped (meanings.journal before) before c.stop_of.result
    (stop_told (meanings.journal before) c.in-Err.fault c.stop_of.result
    (λ at e. damage_is (one_place c.a_fault_has_one_place.ensures) (called_none c.damaged_files_stand_for_nothing.ensures c.called_changes_make_the_repository.ensures) (meanings.journal before) before at (are.journal before)
    (c.standing.ensures.damaged told at (c.in-Err.is ∙ ap Err e))) c.stop_of.ensures)

pub returns-in-Err-clause-cause : goal.returns-in-Err-clause-cause
returns-in-Err-clause-cause g c = λ e. c.standing.ensures.cause (c.in-Err.is ∙ ap Err (is_read_fault c.in-Err.fault c.stop_of.result c.stop_of.ensures (same_stop_of c.stop_of.result _ e)))

pub returns-in-Err-clause-no_write : goal.returns-in-Err-clause-no_write
returns-in-Err-clause-no_write g c = λ e. c.standing.ensures.no_write (c.in-Err.is ∙ ap Err (is_write_fault c.in-Err.fault c.stop_of.result c.stop_of.ensures (same_stop_of c.stop_of.result _ e)))
