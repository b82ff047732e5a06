use Rattle.std.proofs.Common.{◌≡◌, take}
use Rattle.j_attrib.specs.Around.{named}
use Rattle.j_attrib.proofs.written.named.Given as goal

abbrev pub invariant-loop-leaf : goal.invariant-loop-leaf
invariant-loop-leaf l = l.list ≡ named l.u (take l.leaf-index l.leaves)
