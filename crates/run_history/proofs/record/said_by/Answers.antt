use Rattle.std.specs.Prelude.{IfNone, None, Option}
use Rattle.std.proofs.Common.{◌≡◌, ap, sym, ◌∙◌}
use Rattle.std.specs.Option.{option_map}
use Rattle.csv.specs.Records.{fields_of}
use Rattle.run_history.proofs.Fields.{cycles_stand, changed_stand, created_stand, digest_found, is_record}
use Rattle.run_history.proofs.Fields.{missing_number, none_some, recipe_stands, removed_stand, run_stands}
use Rattle.run_history.proofs.record.said_by.Goals as goal

-- what holds where there is none
where_none : {A : Type 0} (P : Type 0) (o : Option A) → o ≡ None → P → IfNone o P
where_none P o none p = rw none p

pub returns-in_err-number_at-clause-none : goal.returns-in_err-number_at-clause-none
returns-in_err-number_at-clause-none c =
    where_none _ _ c.from_residual.ensures
    (λ row h. missing_number _ 0 row.run _ c.number_at.ensures.exact c.in_err-number_at.was h.in_bounds.run
    (run_stands row _ h))

pub returns-in_err-get-clause-none : goal.returns-in_err-get-clause-none
returns-in_err-get-clause-none c =
    where_none _ _ c.from_residual-in_err-get.ensures (λ row h. none_some _ row.recipe (sym c.get.ensures.value ∙ ap (option_map (λ s. s.now)) c.in_err-get.was) (recipe_stands row _ h))

pub returns-in_err-number_at-2-clause-none : goal.returns-in_err-number_at-2-clause-none
returns-in_err-number_at-2-clause-none c =
    where_none _ _ c.from_residual-in_err-number_at-2.ensures
    (λ row h. missing_number _ 2 row.cycles _ c.number_at-2.ensures.exact c.in_err-number_at-2.was h.in_bounds.cycles
    (cycles_stand row _ h))

pub returns-in_err-number_at-3-clause-none : goal.returns-in_err-number_at-3-clause-none
returns-in_err-number_at-3-clause-none c =
    where_none _ _ c.from_residual-in_err-number_at-3.ensures
    (λ row h. missing_number _ 3 row.changed _ c.number_at-3.ensures.exact c.in_err-number_at-3.was h.in_bounds.changed
    (changed_stand row _ h))

pub returns-in_err-number_at-4-clause-none : goal.returns-in_err-number_at-4-clause-none
returns-in_err-number_at-4-clause-none c =
    where_none _ _ c.from_residual-in_err-number_at-4.ensures
    (λ row h. missing_number _ 4 row.created _ c.number_at-4.ensures.exact c.in_err-number_at-4.was h.in_bounds.created
    (created_stand row _ h))

pub returns-in_err-number_at-5-clause-none : goal.returns-in_err-number_at-5-clause-none
returns-in_err-number_at-5-clause-none c =
    where_none _ _ c.from_residual-in_err-number_at-5.ensures
    (λ row h. missing_number _ 5 row.removed _ c.number_at-5.ensures.exact c.in_err-number_at-5.was h.in_bounds.removed
    (removed_stand row _ h))

pub returns-in_err-digest_at-clause-none : goal.returns-in_err-digest_at-clause-none
returns-in_err-digest_at-clause-none c =
    where_none _ _ c.from_residual-in_err-digest_at.ensures
    (λ row h. none_some c.digest_at.result row.digest c.in_err-digest_at.was (c.digest_at.ensures ∙ digest_found row _ h))

pub returns-clause-some : goal.returns-clause-some
returns-clause-some c =
    is_record _ (fields_of c.args.entry.now) (sym c.len.ensures ∙ c.if-len-ne-FIELD_COUNT.false)
    ((c.number_at.ensures.exact c.in_ok-number_at.field-0 c.in_ok-number_at.ensures.small).0 c.in_ok-number_at.was)
    (sym c.in_ok-get.ensures.value)
    ((c.number_at-2.ensures.exact c.in_ok-number_at-2.field-0 c.in_ok-number_at-2.ensures.small).0 c.in_ok-number_at-2.was)
    ((c.number_at-3.ensures.exact c.in_ok-number_at-3.field-0 c.in_ok-number_at-3.ensures.small).0 c.in_ok-number_at-3.was)
    ((c.number_at-4.ensures.exact c.in_ok-number_at-4.field-0 c.in_ok-number_at-4.ensures.small).0 c.in_ok-number_at-4.was)
    ((c.number_at-5.ensures.exact c.in_ok-number_at-5.field-0 c.in_ok-number_at-5.ensures.small).0 c.in_ok-number_at-5.was)
    (sym c.in_ok-digest_at.ensures)
    c.in_ok-number_at.ensures.small c.in_ok-number_at-2.ensures.small c.in_ok-number_at-3.ensures.small c.in_ok-number_at-4.ensures.small c.in_ok-number_at-5.ensures.small
