use Rattle.std.proofs.Common.{List, length, ◌-◌, suc}
use Rattle.j_names.specs.Indexed.{IsChained}
use Rattle.j_names.specs.declared.link.Link.{Link}
use Rattle.j_names.proofs.chains.grow.Given as goal

abbrev pub invariant-loop-heads : goal.invariant-loop-heads
invariant-loop-heads l = (links : List Link) → IsChained links l.initial.heads.items → IsChained links l.heads.items

abbrev pub decreases-loop-heads : goal.decreases-loop-heads
decreases-loop-heads l = suc l.number - length l.heads.items
