use Rattle.std.proofs.Common.{◌≡◌, true, false, take, drop, refl, sym, ap, ◌∙◌, ◌+◌}
use Rattle.std.proofs.lemmas.Bool.{false≢true}
use Rattle.std.proofs.lemmas.List.{take_rest}
use Rattle.journal_text.specs.Parts.{LineFault}
use Rattle.journal_text.specs.Reading.{is_digest_line}
use Rattle.journal_text.proofs.Places.{on_at}
use Rattle.journal_text.proofs.reader.last_line.Goals as goal

pub returns-then-is_digest_line-clause-wrong : goal.returns-then-is_digest_line-clause-wrong
returns-then-is_digest_line-clause-wrong c =
    let wrong = rw c.in-Err-At.field-0-is at c.in-Err-At.ensures.wrong in
    let there : is_digest_line (drop c.args.at c.args.bytes.now) ≡ true = sym (ap is_digest_line (take_rest c.args.bytes.now c.args.at)) ∙ sym c.if-is_digest_line.ensures in
    on_at _ (c.args.at + 7) (LineFault (take c.args.at c.args.bytes.now) c.args.bytes.now c.args.at) c.stop_at.ensures
    (record { differs = wrong.differs; as_digest = λ e. refl; as_text = λ e. absurd (false≢true (sym e ∙ there)) })

pub returns-else-is_digest_line-clause-wrong : goal.returns-else-is_digest_line-clause-wrong
returns-else-is_digest_line-clause-wrong c =
    let wrong = rw c.in-Err-At.field-0-is at c.in-Err-At.ensures.wrong in
    let there : is_digest_line (drop c.args.at c.args.bytes.now) ≡ false = sym (ap is_digest_line (take_rest c.args.bytes.now c.args.at)) ∙ sym c.if-is_digest_line.ensures in
    record { differs = wrong.differs; as_digest = λ e. absurd (false≢true (sym there ∙ e)); as_text = λ e. wrong }
