use Rattle.std.proofs.Common.{◌≡◌, ◌++◌}
use Rattle.std.specs.Vec.Iter.{into_iter_items}
use Rattle.journal_text.specs.Changes.{changes_of}
use Rattle.standing_files.proofs.Over.{paths_over}
use Rattle.standing_files.proofs.list.merge.Given as goal

-- what is merged and what the rest gives is what all gives
abbrev pub invariant-loop-path : goal.invariant-loop-path
invariant-loop-path l =
    l.merged.items ++ paths_over (into_iter_items l.path-iterator) (changes_of l.rest) ≡ paths_over l.fn.paths.items (changes_of l.fn.entries)
