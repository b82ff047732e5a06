use Rattle.std.proofs.Common.{◌≡◌, ◌++◌, drop}
use Rattle.j_repair.specs.Changes.{without}
use Rattle.j_repair.proofs.repairing.without.Given as goal

abbrev pub invariant-loop-file : goal.invariant-loop-file
invariant-loop-file l = l.out.items ++ without l.path (drop l.file-index l.files) ≡ without l.path l.files
