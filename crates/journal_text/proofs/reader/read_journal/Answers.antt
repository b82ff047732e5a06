use Rattle.std.proofs.Common.{[], ◌∷◌, ◌++◌, codes, arith, refl}
use Rattle.std.proofs.lemmas.Result.{err_from_is_err_and}
use Rattle.journal_text.specs.Numerals.{numeral}
use Rattle.journal_text.specs.Parts.{IsWord, IsNumeral, Ended}
use Rattle.journal_text.proofs.FaultPlaces.{body_unread, body_place, line_unread, line_place}
use Rattle.journal_text.proofs.Places.{on_at_weaker}
use Rattle.journal_text.proofs.Stuck.{then_took, first_stuck, second_stuck, word_unique}
use Rattle.journal_text.proofs.Whole.{head_stops, head_done, reads_all}
use Rattle.journal_text.proofs.reader.read_journal.Goals as goal

pub returns-in_err-count_at-clause-unread : goal.returns-in_err-count_at-clause-unread
returns-in_err-count_at-clause-unread c =
    let p = err_from_is_err_and c.from_residual.result c.from_residual.ensures.1 in
    rw (p.1, p.2) (on_at_weaker _ _ _ (λ n s. body_unread c.args.bytes.now n (head_stops c.args.bytes.now n (first_stuck (IsWord (codes "rewrite-journal 1\n")) (λ _. Ended IsNumeral 10) c.args.bytes.now 0 n (λ x text w. (0, (numeral 0 ++ 10 ∷ [], record { body = numeral 0; spells = record { is = refl }; ended = refl }))) s))) c.in_err-count_at.ensures.stuck)

pub returns-in_err-count_at-clause-place : goal.returns-in_err-count_at-clause-place
returns-in_err-count_at-clause-place c =
    let p = err_from_is_err_and c.from_residual.result c.from_residual.ensures.1 in
    rw (p.1, p.2) (on_at_weaker _ _ _ (λ n s. body_place c.args.bytes.now n (omega arith) (head_stops c.args.bytes.now n (first_stuck (IsWord (codes "rewrite-journal 1\n")) (λ _. Ended IsNumeral 10) c.args.bytes.now 0 n (λ x text w. (0, (numeral 0 ++ 10 ∷ [], record { body = numeral 0; spells = record { is = refl }; ended = refl }))) s))) c.in_err-count_at.ensures.stuck)

pub returns-in_err-count-clause-unread : goal.returns-in_err-count-clause-unread
returns-in_err-count-clause-unread c =
    let p = err_from_is_err_and c.from_residual-in_err-count.result c.from_residual-in_err-count.ensures.1 in
    rw (p.1, p.2) (on_at_weaker _ _ _ (λ n s. body_unread c.args.bytes.now n (head_stops c.args.bytes.now n (second_stuck (IsWord (codes "rewrite-journal 1\n")) (λ _. Ended IsNumeral 10) c.args.bytes.now 0 _ n tt (word_unique (codes "rewrite-journal 1\n")) c.in_ok-count_at.ensures.took s))) c.in_err-count.ensures.stuck)

pub returns-in_err-count-clause-place : goal.returns-in_err-count-clause-place
returns-in_err-count-clause-place c =
    let p = err_from_is_err_and c.from_residual-in_err-count.result c.from_residual-in_err-count.ensures.1 in
    rw (p.1, p.2) (on_at_weaker _ _ _ (λ n s. body_place c.args.bytes.now n (omega arith) (head_stops c.args.bytes.now n (second_stuck (IsWord (codes "rewrite-journal 1\n")) (λ _. Ended IsNumeral 10) c.args.bytes.now 0 _ n tt (word_unique (codes "rewrite-journal 1\n")) c.in_ok-count_at.ensures.took s))) c.in_err-count.ensures.stuck)

pub returns-in_err-entries-clause-unread : goal.returns-in_err-entries-clause-unread
returns-in_err-entries-clause-unread c =
    let p = err_from_is_err_and c.from_residual-in_err-entries.result c.from_residual-in_err-entries.ensures.1 in
    rw (p.1, p.2) (on_at_weaker _ _ _ (λ n s. body_unread c.args.bytes.now n s) c.in_err-entries.ensures.stuck)

pub returns-in_err-entries-clause-place : goal.returns-in_err-entries-clause-place
returns-in_err-entries-clause-place c =
    let p = err_from_is_err_and c.from_residual-in_err-entries.result c.from_residual-in_err-entries.ensures.1 in
    rw (p.1, p.2) (on_at_weaker _ _ _ (λ n s. body_place c.args.bytes.now n (omega arith) s) c.in_err-entries.ensures.stuck)

pub returns-in_err-last_line-clause-unread : goal.returns-in_err-last_line-clause-unread
returns-in_err-last_line-clause-unread c =
    let p = err_from_is_err_and c.from_residual-in_err-last_line.result c.from_residual-in_err-last_line.ensures.1 in
    rw (p.1, p.2) (on_at_weaker _ _ _ (λ n s. line_unread c.args.bytes.now _ n _ c.in_ok-entries.ensures.took s) c.in_err-last_line.ensures.wrong)

pub returns-in_err-last_line-clause-place : goal.returns-in_err-last_line-clause-place
returns-in_err-last_line-clause-place c =
    let p = err_from_is_err_and c.from_residual-in_err-last_line.result c.from_residual-in_err-last_line.ensures.1 in
    rw (p.1, p.2) (on_at_weaker _ _ _ (λ n s. line_place c.args.bytes.now _ n _ (omega arith) c.in_ok-entries.ensures.took s) c.in_err-last_line.ensures.wrong)

pub entries-requires-clause-begun : goal.entries-requires-clause-begun
entries-requires-clause-begun c =
    let t = c.in_ok-count.ensures.took in
    head_done t.n _ c.args.bytes.now _ t.value (then_took (IsWord (codes "rewrite-journal 1\n")) (λ _. Ended IsNumeral 10) c.args.bytes.now 0 _ _ tt t.n c.in_ok-count_at.ensures.took t.took)

pub returns-clause-read : goal.returns-clause-read
returns-clause-read c = reads_all c.args.bytes.now _ _ (omega arith) c.in_ok-entries.ensures.took c.in_ok-last_line.ensures.right
