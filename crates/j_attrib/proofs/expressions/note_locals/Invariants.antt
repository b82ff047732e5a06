use Rattle.std.proofs.Common.{◌≡◌, ◌++◌, take}
use Rattle.j_attrib.specs.Expressions.{locals_unknown}
use Rattle.j_attrib.proofs.expressions.note_locals.Given as goal

abbrev pub invariant-loop-leaf : goal.invariant-loop-leaf
invariant-loop-leaf l =
    (l.log.notes ≡ l.fn.log.notes ++ locals_unknown (take l.leaf-index l.leaves)) × (l.log.asks ≡ l.fn.log.asks)
