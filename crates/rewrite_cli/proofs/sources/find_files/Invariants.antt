use Rattle.std.proofs.Common.{◌≡◌, ◌≤◌, ◌+◌, ◌++◌, IsTrue, length}
use Rattle.std.specs.Vec.Iter.{into_iter_items, into_iter_len}
use Rattle.rw_host.specs.Files.{IsInOrder}
use Rattle.j_repair.specs.Changes.{paths_of}
use Rattle.rewrite_cli.specs.declared.limits.TheConstants.{MOST_IN_ALL}
use Rattle.rewrite_cli.specs.Sources.{bytes_read, sources_at}
use Rattle.rewrite_cli.specs.Stubs.{stubs_at}
use Rattle.rewrite_cli.specs.Journals.{laid}
use Rattle.rewrite_cli.specs.Moments.{Idle}
use Rattle.rewrite_cli.proofs.sources.find_files.Given as goal

abbrev pub invariant-loop-path : goal.invariant-loop-path
invariant-loop-path g l =
    record {
      found : IsTrue g.S.Store.tells_files → l.found.files.items ++ sources_at (laid l.fn.entries (g.S.Store.files l.initial.store)) (into_iter_items l.path-iterator) ≡ sources_at (laid l.fn.entries (g.S.Store.files l.initial.store)) l.fn.paths.items;
      stubs : IsTrue g.S.Store.tells_files → l.found.stubs.items ++ stubs_at (laid l.fn.entries (g.S.Store.files l.initial.store)) (into_iter_items l.path-iterator) ≡ stubs_at (laid l.fn.entries (g.S.Store.files l.initial.store)) l.fn.paths.items;
      order : IsInOrder (paths_of l.found.files.items ++ into_iter_items l.path-iterator);
      bytes : IsTrue g.S.Store.tells_files → l.found.bytes + bytes_read (laid l.fn.entries (g.S.Store.files l.initial.store)) (into_iter_items l.path-iterator) ≡ bytes_read (laid l.fn.entries (g.S.Store.files l.initial.store)) l.fn.paths.items;
      len : into_iter_len l.path-iterator ≡ length (into_iter_items l.path-iterator);
      small : l.found.bytes ≤ MOST_IN_ALL;
      files : g.S.Store.files l.store ≡ g.S.Store.files l.initial.store;
      idle : Idle g.S.Store.tells_images g.S.Store.is_unsynced g.S.Store.moment g.S.Store.left_since g.S.Store.image l.initial.store l.store;
      count : g.S.Store.read_faults l.initial.store ≤ g.S.Store.read_faults l.store;
      other_count : g.S.Store.write_faults l.store ≡ g.S.Store.write_faults l.initial.store;
    }
