use Rattle.std.proofs.Common.{◌≡◌, take, filter}
use Rattle.std.specs.Option.{option_copied}
use Rattle.j_names.specs.Members.{counts}
use Rattle.j_names.proofs.creations.counting.Given as goal

abbrev pub invariant-loop-m : goal.invariant-loop-m
invariant-loop-m l =
    l.all ≡ filter (λ m. counts (option_copied l.fn.top) l.header m.is_private) (take l.m-index l.methods)
