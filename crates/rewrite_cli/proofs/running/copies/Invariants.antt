use Rattle.std.proofs.Common.{◌≡◌, take}
use Rattle.rewrite_cli.proofs.running.copies.Given as goal

abbrev pub invariant-loop-file : goal.invariant-loop-file
invariant-loop-file l = l.out.items ≡ take l.file-index l.files
