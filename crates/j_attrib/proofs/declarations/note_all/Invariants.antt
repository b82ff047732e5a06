use Rattle.std.proofs.Common.{◌≡◌, ◌++◌, map, take}
use Rattle.judging.specs.declared.log.Note.TheVariants as note
use Rattle.j_attrib.proofs.declarations.note_all.Given as goal

abbrev pub invariant-loop-leaf : goal.invariant-loop-leaf
invariant-loop-leaf l =
    (l.log.notes ≡ l.fn.log.notes ++ map (λ i. note.Symbol i l.symbol) (take l.leaf-index l.leaves))
    × (l.log.asks ≡ l.fn.log.asks)
