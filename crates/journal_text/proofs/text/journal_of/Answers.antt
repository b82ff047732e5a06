use Rattle.std.proofs.Common.{◌≡◌, ◌++◌, codes, ap, ◌∙◌}
use Rattle.hex.specs.Hex.{encode_lower}
use Rattle.sha2.specs.Sha256.{sha256}
use Rattle.journal_text.specs.Changes.{changes_of}
use Rattle.journal_text.specs.Text.{body_text, digest_line, journal_text}
use Rattle.journal_text.proofs.text.journal_of.Goals as goal

pub returns-clause-text : goal.returns-clause-text
unfolding journal_text
returns-clause-text c =
    let body : c.push_body.new.out.items ≡ body_text (changes_of c.args.batch.now.entries.items) =
    c.in_ok-push_body.ensures.text ∙ ap (λ t. t ++ body_text (changes_of c.deref.result.now)) c.in_ok-text.ensures.items
    ∙ ap (λ es. body_text (changes_of es)) c.deref.ensures.value in
    c.in_ok-push_digest.ensures
    ∙ ap (λ d. c.push_body.new.out.items ++ (codes "sha256 " ++ d ++ codes "\n"))
    (c.digest_digits-digits.ensures ∙ ap (λ t. encode_lower (sha256 t)) c.deref-2.ensures.value)
    ∙ ap (λ t. t ++ digest_line t) body
