use Rattle.std.proofs.Common.{◌≡◌, ◌≤◌, ◌+◌, ◌++◌, ◌||◌, IsTrue, length}
use Rattle.std.specs.Vec.Iter.{into_iter_items, into_iter_len}
use Rattle.kept_files.specs.Readings.{AreReadings, Reads}
use Rattle.rewrite_cli.specs.declared.limits.TheConstants.{MOST_IN_ALL}
use Rattle.rewrite_cli.specs.Sources.{bytes_read}
use Rattle.rewrite_cli.specs.Checking.{any_refused, lines}
use Rattle.rewrite_cli.specs.Journals.{laid}
use Rattle.rewrite_cli.specs.Moments.{Idle}
use Rattle.rewrite_cli.proofs.checking.check_files.Given as goal

abbrev pub invariant-loop-path : goal.invariant-loop-path
invariant-loop-path g l =
    record {
      text : IsTrue g.S.Store.tells_files → (read : Reads) → AreReadings read → l.findings.text.items ++ lines read (laid l.fn.entries (g.S.Store.files l.initial.store)) (into_iter_items l.path-iterator) ≡ l.initial.findings.text.items ++ lines read (laid l.fn.entries (g.S.Store.files l.initial.store)) l.fn.paths.items;
      refused : IsTrue g.S.Store.tells_files → (read : Reads) → AreReadings read → (l.findings.any_refused || any_refused read (laid l.fn.entries (g.S.Store.files l.initial.store)) (into_iter_items l.path-iterator)) ≡ (l.initial.findings.any_refused || any_refused read (laid l.fn.entries (g.S.Store.files l.initial.store)) l.fn.paths.items);
      bytes : IsTrue g.S.Store.tells_files → l.findings.bytes + bytes_read (laid l.fn.entries (g.S.Store.files l.initial.store)) (into_iter_items l.path-iterator) ≡ bytes_read (laid l.fn.entries (g.S.Store.files l.initial.store)) l.fn.paths.items;
      len : into_iter_len l.path-iterator ≡ length (into_iter_items l.path-iterator);
      small : l.findings.bytes ≤ MOST_IN_ALL;
      files : g.S.Store.files l.store ≡ g.S.Store.files l.initial.store;
      idle : Idle g.S.Store.tells_images g.S.Store.is_unsynced g.S.Store.moment g.S.Store.left_since g.S.Store.image l.initial.store l.store;
      count : g.S.Store.read_faults l.initial.store ≤ g.S.Store.read_faults l.store;
    }
