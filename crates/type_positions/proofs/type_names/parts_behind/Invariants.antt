use Rattle.std.proofs.Common.{drop}
use Rattle.jtypes.specs.declared.symbol.Symbol.{Symbol}
use Rattle.judging.specs.Judging.{Judged}
use Rattle.judging.specs.declared.log.Log.{Log}
use Rattle.type_positions.specs.TypeNames.{parts_behind}
use Rattle.type_positions.proofs.type_names.parts_behind.Given as goal

-- what the rest gives is what all gives
abbrev pub invariant-loop-part : goal.invariant-loop-part
invariant-loop-part g l =
    let w = g.C.Classes.world l.c in
    (new : Log) (y : Symbol) → Judged (parts_behind l.cx l.symbol (drop l.part-index l.parts)) w l.log new y
    → Judged (parts_behind l.cx l.initial.symbol l.parts) w l.initial.log new y
