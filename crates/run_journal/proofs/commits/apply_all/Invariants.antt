use Rattle.std.proofs.Common.{◌≡◌, ◌≤◌, ℕ, List, true, IsTrue, length}
use Rattle.std.specs.Vec.Iter.{into_iter_items, into_iter_len}
use Rattle.rw_host.specs.Crash.{Leaves}
use Rattle.journal_text.specs.Changes.{changes_of}
use Rattle.run_journal.specs.Standing.{SameBut, applied, touches}
use Rattle.run_journal.proofs.commits.apply_all.Given as goal

abbrev pub invariant-loop-entry : goal.invariant-loop-entry
invariant-loop-entry g l =
    let all = changes_of l.fn.entries.items in
    let left = changes_of (into_iter_items l.entry-iterator) in
    let start = g.S.Store.files l.initial.store in
    record {
      files : IsTrue g.S.Store.tells_files → applied left (g.S.Store.files l.store) ≡ applied all start;
      among : (p : List ℕ) → touches left p ≡ true → touches all p ≡ true;
      leaves : IsTrue g.S.Store.tells_images
          → Leaves g.S.Store.moment g.S.Store.left_since g.S.Store.image l.initial.store l.store (SameBut all start)
          (SameBut all start);
      len : into_iter_len l.entry-iterator ≡ length (into_iter_items l.entry-iterator);
      room : length (into_iter_items l.entry-iterator) ≤ g.S.Store.spare l.store;
      count : g.S.Store.write_faults l.initial.store ≤ g.S.Store.write_faults l.store;
      other_count : g.S.Store.read_faults l.store ≡ g.S.Store.read_faults l.initial.store;
    }
