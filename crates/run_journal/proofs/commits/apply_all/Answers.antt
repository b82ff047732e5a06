use Rattle.std.proofs.Common.{◌≡◌, ◌∷◌, ap, arith, length, ◌∙◌}
use Rattle.std.specs.Vec.Iter.{into_iter_items}
use Rattle.journal_text.specs.Changes.{changes_of}
use Rattle.run_journal.proofs.Committing.{entry_leaves}
use Rattle.run_journal.proofs.Images.{entry_touches, left_applied, left_touches}
use Rattle.run_journal.proofs.commits.apply_all.Goals as goal

pub loop-entry-preserved : goal.loop-entry-preserved
loop-entry-preserved g c =
    let entry = c.in-Some.entry in
    let entries = into_iter_items c.loop-entry.entry-iterator in
    let left = into_iter_items c.next.new.self in
    let cut : entries ≡ entry ∷ left = c.in-Some.ensures.steps.0 in
    let before = c.loop-entry.invariant in
    record {
      files = λ told.
          left_applied entries left entry _ _ cut (c.in_ok-apply_one.ensures.files told) ∙ before.files told;
      among = λ p is. before.among p (left_touches entries left entry p cut is);
      leaves = λ told. entry_leaves _ _ _ (changes_of c.args.entries.items) _ entry.path _ _ _
          (before.among entry.path (entry_touches entries left entry cut)) (before.leaves told)
          (c.apply_one.ensures.crash told);
      len = omega (arith, c.in-Some.ensures.steps.1, before.len, ap length cut);
      room = omega (arith, before.room, c.apply_one.ensures.spare, ap length cut);
      count = omega (arith, before.count, c.apply_one.ensures.count);
      other_count = c.apply_one.ensures.other_count ∙ before.other_count;
    }

pub returns-in_err-apply_one-clause-any_moment : goal.returns-in_err-apply_one-clause-any_moment
returns-in_err-apply_one-clause-any_moment g c told =
    let entry = c.in-Some.entry in
    let entries = into_iter_items c.loop-entry.entry-iterator in
    let left = into_iter_items c.next.new.self in
    let cut : entries ≡ entry ∷ left = c.in-Some.ensures.steps.0 in
    let before = c.loop-entry.invariant in
    entry_leaves _ _ _ (changes_of c.args.entries.items) _ entry.path _ _ _
    (before.among entry.path (entry_touches entries left entry cut)) (before.leaves told)
    (c.apply_one.ensures.crash told)
