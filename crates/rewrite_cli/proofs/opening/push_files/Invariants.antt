use Rattle.std.proofs.Common.{◌≡◌, ◌++◌, drop}
use Rattle.std.specs.List.{flat_map}
use Rattle.scheduler.specs.Runs.{refusal_of}
use Rattle.rewrite_cli.proofs.opening.push_files.Given as goal

abbrev pub invariant-loop-file : goal.invariant-loop-file
invariant-loop-file l = l.events.items ++ flat_map refusal_of (drop l.file-index l.files) ≡ l.initial.events.items ++ flat_map refusal_of l.files
