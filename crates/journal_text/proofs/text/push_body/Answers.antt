use Rattle.std.proofs.Common.{◌++◌, ap, sym, ◌∙◌, append_assoc}
use Rattle.std.proofs.lemmas.Result.{on_ok_weaker}
use Rattle.journal_text.specs.Changes.{changes_of}
use Rattle.journal_text.specs.Text.{head_text, entries_text}
use Rattle.journal_text.proofs.Lengths.{length-changes_of}
use Rattle.journal_text.proofs.text.push_body.Goals as goal

pub returns-clause-text : goal.returns-clause-text
returns-clause-text c =
    let entries = c.args.entries.now in
    on_ok_weaker c.push_entries.result (λ e. e
    ∙ ap (λ t. t ++ entries_text (changes_of entries)) c.in_ok-push_head.ensures
    ∙ append_assoc c.args.out.now.items _ _
    ∙ ap (λ n. c.args.out.now.items ++ (head_text n ++ entries_text (changes_of entries))) (sym (length-changes_of entries))) c.push_entries.ensures.text
