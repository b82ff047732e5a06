use Rattle.std.proofs.Common.{Some, refl, subst}
use Rattle.journal_text.specs.Changes.{changes_of}
use Rattle.rewrite_cli.specs.Ends.{IsPlaceIn}
use Rattle.rewrite_cli.proofs.Batches.{history_put, names}
use Rattle.rewrite_cli.proofs.changes.put_history.Goals as goal

pub returns : goal.returns
returns c =
    history_put c.args.batch.now.entries.items c.insert.new.self.items c.place_of-at.result (record { path = c.in_ok-path.path; bytes = Some c.args.bytes }) _ c.args.bytes.items c.in_ok-path.ensures names.1.1 refl
    (subst (λ es. IsPlaceIn (changes_of es) _ c.place_of-at.result) c.deref.ensures.value c.place_of-at.ensures.place) c.in_ok-insert.ensures.items
