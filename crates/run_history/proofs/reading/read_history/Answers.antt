use Rattle.std.specs.Prelude.{Err, Ok, Result, IsErrAnd}
use Rattle.std.proofs.Common.{◌≡◌, ◌∙◌, arith, refl, ap, inl}
use Rattle.run_history.specs.History.{most_bytes}
use Rattle.run_history.specs.Reader.{left_in}
use Rattle.run_history.proofs.ReaderSteps.{at_start}
use Rattle.run_history.proofs.Rows.{bad_fault, few_rows, no_history, one_history, one_place, only_memory, only_place}
use Rattle.run_history.proofs.Rows.{read_all, read_more, read_start}
use Rattle.run_history.proofs.reading.read_history.Goals as goal

pub returns-then-bytes-gt-MOST_BYTES-clause-at : goal.returns-then-bytes-gt-MOST_BYTES-clause-at
unfolding most_bytes
returns-then-bytes-gt-MOST_BYTES-clause-at c = inl (c.if-bytes-gt-MOST_BYTES.true, refl)

pub returns-then-bytes-gt-MOST_BYTES-clause-reading : goal.returns-then-bytes-gt-MOST_BYTES-clause-reading
unfolding most_bytes
returns-then-bytes-gt-MOST_BYTES-clause-reading c = λ rows h. let short = h.short in absurd (omega arith)

pub returns-then-bytes-gt-MOST_BYTES-clause-no_reading : goal.returns-then-bytes-gt-MOST_BYTES-clause-no_reading
unfolding most_bytes
returns-then-bytes-gt-MOST_BYTES-clause-no_reading c = λ place h.
    one_place c.args.bytes.now 1073741824 place (inl (c.if-bytes-gt-MOST_BYTES.true, refl)) h

pub loop-rows-init : goal.loop-rows-init
loop-rows-init c =
    let made = c.from_reader-reader.ensures in
    let no_headers = c.has_headers.ensures in
    let flexible = c.flexible.ensures in
    let start =
    at_start c.from_reader-reader.result c.args.bytes.now
    (rw (flexible, no_headers) at made.trim ∙ c.new.ensures.trim)
    (rw (flexible, no_headers) at made.has_headers)
    made.headers
    (rw (flexible, no_headers) at made.config ∙ c.new.ensures.config)
    (rw (flexible) at made.flexible)
    made.state
    made.source
    in
    (start.0, read_start c.args.bytes.now c.new-rows.result.items _ c.new-rows.ensures.items start.1)

pub take_row-requires : goal.take_row-requires
take_row-requires c =
    let few = few_rows c.args.bytes.now c.loop-rows.rows.items (left_in c.loop-rows.reader) c.loop-rows.invariant.1 in
    record { few = omega arith }

pub loop-rows-preserved : goal.loop-rows-preserved
loop-rows-preserved c =
    let found = c.in-Ok-true.field-0-test in (
      c.in-Ok-true.ensures.between found,
      read_more c.args.bytes.now c.loop-rows.rows.items c.take_row.new.rows.items (left_in c.loop-rows.reader)
          (left_in c.next_record.new.reader) _ c.loop-rows.invariant.1 (c.in-Ok-true.ensures.next found)
          c.in_ok-take_row-in-Ok-true.ensures.run,
    )

-- a fault that is handed on
given : {T E : Type 0} (r : Result T E) (e : E) → IsErrAnd r (λ x. x ≡ e) → r ≡ Err e
given (Ok x) e h = absurd h
given (Err x) e h = ap Err h

pub returns-in_err-take_row-in-Ok-true-clause-at : goal.returns-in_err-take_row-in-Ok-true-clause-at
unfolding most_bytes
returns-in_err-take_row-in-Ok-true-clause-at c =
    let told = c.in_err-take_row-in-Ok-true.ensures in
    let next = c.in-Ok-true.ensures.next c.in-Ok-true.field-0-test in
    let same : c.from_residual.result ≡ Err c.in_err-take_row-in-Ok-true.field-0.0 = given _ _ c.from_residual.ensures.1 in
    rw same (bad_fault c.args.bytes.now c.loop-rows.rows.items _ _ _ _ c.loop-rows.invariant.1 next
    c.if-bytes-gt-MOST_BYTES.false told.at told.out)

pub returns-in_err-take_row-in-Ok-true-clause-reading : goal.returns-in_err-take_row-in-Ok-true-clause-reading
unfolding most_bytes
returns-in_err-take_row-in-Ok-true-clause-reading c = λ rows h.
    let told = c.in_err-take_row-in-Ok-true.ensures in
    let next = c.in-Ok-true.ensures.next c.in-Ok-true.field-0-test in
    let same : c.from_residual.result ≡ Err c.in_err-take_row-in-Ok-true.field-0.0 = given _ _ c.from_residual.ensures.1 in
    rw same (only_memory c.args.bytes.now rows _ (bad_fault c.args.bytes.now c.loop-rows.rows.items _ _ _ _
    c.loop-rows.invariant.1 next c.if-bytes-gt-MOST_BYTES.false told.at told.out) h)

pub returns-in_err-take_row-in-Ok-true-clause-no_reading : goal.returns-in_err-take_row-in-Ok-true-clause-no_reading
unfolding most_bytes
returns-in_err-take_row-in-Ok-true-clause-no_reading c = λ place h.
    let told = c.in_err-take_row-in-Ok-true.ensures in
    let next = c.in-Ok-true.ensures.next c.in-Ok-true.field-0-test in
    let same : c.from_residual.result ≡ Err c.in_err-take_row-in-Ok-true.field-0.0 = given _ _ c.from_residual.ensures.1 in
    rw same (only_place c.args.bytes.now place _ (bad_fault c.args.bytes.now c.loop-rows.rows.items _ _ _ _
    c.loop-rows.invariant.1 next c.if-bytes-gt-MOST_BYTES.false told.at told.out) h)

pub returns-in-Ok-false-clause-ok : goal.returns-in-Ok-false-clause-ok
unfolding most_bytes
returns-in-Ok-false-clause-ok c =
    let none = c.in-Ok-false.ensures.none c.in-Ok-false.field-0-test in
    read_all c.args.bytes.now c.loop-rows.rows.items _ c.loop-rows.invariant.1 none c.if-bytes-gt-MOST_BYTES.false

pub returns-in-Ok-false-clause-reading : goal.returns-in-Ok-false-clause-reading
unfolding most_bytes
returns-in-Ok-false-clause-reading c = λ rows h.
    let none = c.in-Ok-false.ensures.none c.in-Ok-false.field-0-test in
    let is = read_all c.args.bytes.now c.loop-rows.rows.items _ c.loop-rows.invariant.1 none c.if-bytes-gt-MOST_BYTES.false in
    one_history c.args.bytes.now c.loop-rows.rows.items rows is h

pub returns-in-Ok-false-clause-no_reading : goal.returns-in-Ok-false-clause-no_reading
unfolding most_bytes
returns-in-Ok-false-clause-no_reading c = λ place h.
    let none = c.in-Ok-false.ensures.none c.in-Ok-false.field-0-test in
    let is = read_all c.args.bytes.now c.loop-rows.rows.items _ c.loop-rows.invariant.1 none c.if-bytes-gt-MOST_BYTES.false in
    no_history c.args.bytes.now place c.loop-rows.rows.items h is
