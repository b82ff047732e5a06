use Rattle.std.proofs.Common.{◌≡◌, ◌++◌, [], ℕ, List, codes, ap, sym, subst, ◌∙◌}
use Rattle.hex.specs.Hex.{encode_lower}
use Rattle.sha2.specs.Sha256.{Holds, initial_hash_256, sha256}
use Rattle.sha2.specs.declared.Sha256.{Sha256}
use Rattle.journal_text.specs.Changes.{changes_of}
use Rattle.journal_text.specs.Text.{body_text, digest_line, journal_text}
use Rattle.journal_text.proofs.text.journal_digest.Goals as goal

pub returns-clause-digest : goal.returns-clause-digest
unfolding journal_text
returns-clause-digest c =
    let text : List ℕ = body_text (changes_of c.args.batch.now.entries.items) in
    let body : c.push_body.new.out.items ≡ text =
    c.in_ok-push_body.ensures.text ∙ ap (λ t. t ++ body_text (changes_of c.deref.result.now)) c.in_ok-body.ensures.items
    ∙ ap (λ es. body_text (changes_of es)) c.deref.ensures.value in
    let seen : c.deref-2.result.now ≡ text = c.deref-2.ensures.value ∙ body in
    let taken = c.update.ensures [] c.new-hasher.ensures in
    let first : c.finalize.result ≡ sha256 text =
    c.finalize.ensures c.deref-2.result.now
    (subst (λ (h : Sha256). Holds initial_hash_256 h.core c.deref-2.result.now) (sym c.in_ok-before_line.ensures.cases)
    taken) ∙ ap sha256 seen in
    let line : c.deref-3.result.now ≡ digest_line text =
    c.deref-3.ensures.value ∙ c.in_ok-push_digest.ensures
    ∙ ap (λ t. t ++ (codes "sha256 " ++ c.digits_of.result ++ codes "\n")) c.in_ok-line.ensures.items
    ∙ ap (λ d. codes "sha256 " ++ d ++ codes "\n") (c.digits_of.ensures ∙ ap encode_lower first) in
    c.finalize-2.ensures ([] ++ c.deref-2.result.now ++ c.deref-3.result.now) (c.update-2.ensures ([] ++ c.deref-2.result.now) taken)
    ∙ ap sha256 (ap (λ b. b ++ c.deref-3.result.now) seen ∙ ap (λ l. text ++ l) line)
