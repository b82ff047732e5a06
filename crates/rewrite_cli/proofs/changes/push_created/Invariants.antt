use Rattle.std.proofs.Common.{◌++◌, [], drop}
use Rattle.rewrite_cli.specs.Changes.{changes}
use Rattle.rewrite_cli.proofs.Merging.{Notes}
use Rattle.rewrite_cli.proofs.changes.push_created.Given as goal

abbrev pub invariant-loop-at : goal.invariant-loop-at
invariant-loop-at l = Notes l.out.items (changes [] (drop l.at l.files)) (l.initial.out.items ++ changes [] (drop l.fn.from l.files))
