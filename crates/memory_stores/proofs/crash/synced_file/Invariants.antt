use Rattle.std.proofs.Common.{◌≡◌, reverse, take}
use Rattle.memory_stores.specs.Walk.{synced_file}
use Rattle.memory_stores.proofs.crash.synced_file.Given as goal

-- the walk goes on from here as from the beginning
abbrev pub invariant-loop-left : goal.invariant-loop-left
invariant-loop-left l = synced_file (reverse l.log) l.row_at l.row_file ≡ synced_file (reverse (take l.left l.log)) l.at l.file
