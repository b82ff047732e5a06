use Rattle.std.proofs.Common.{◌≡◌, ◌++◌, replicate}
use Rattle.yaml_texts.proofs.block.push_line_ends.Given as goal

abbrev pub invariant-loop-done : goal.invariant-loop-done
invariant-loop-done l = l.out.items ≡ l.fn.out.items ++ replicate l._done 10
