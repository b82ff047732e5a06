use Rattle.std.proofs.Common.{◌≡◌, ◌++◌, take, filter}
use Rattle.std.specs.Option.{option_copied}
use Rattle.j_names.specs.Members.{method_counts}
use Rattle.j_names.proofs.methods.put_counting.Given as goal

abbrev pub invariant-loop-m : goal.invariant-loop-m
invariant-loop-m l = l.found ≡ l.initial.found ++ filter
    (method_counts (option_copied l.fn.top) (option_copied l.fn.begins) l.name l.header) (take l.m-index l.methods)
