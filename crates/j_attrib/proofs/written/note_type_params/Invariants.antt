use Rattle.std.proofs.Common.{◌≡◌, ◌++◌, map, take}
use Rattle.jtypes.specs.declared.symbol.Symbol.TheVariants as symbol
use Rattle.judging.specs.declared.log.Note.TheVariants as note
use Rattle.j_attrib.specs.Around.{name_at}
use Rattle.j_attrib.proofs.written.note_type_params.Given as goal

abbrev pub invariant-loop-leaf : goal.invariant-loop-leaf
invariant-loop-leaf l =
    (l.log.notes ≡ l.fn.log.notes
    ++ map (λ i. note.Symbol i (symbol.TypeVar (name_at l.u i))) (take l.leaf-index l.leaves))
    × (l.log.asks ≡ l.fn.log.asks)
