use Rattle.std.proofs.Common.{drop}
use Rattle.jtypes.specs.declared.symbol.Symbol.{Symbol}
use Rattle.judging.specs.Judging.{Judged}
use Rattle.judging.specs.declared.log.Log.{Log}
use Rattle.type_positions.specs.Declarations.{import_parts}
use Rattle.type_positions.proofs.imports.import_parts.Given as goal

-- what the rest gives is what all gives
abbrev pub invariant-loop-at : goal.invariant-loop-at
invariant-loop-at g l =
    let w = g.C.Classes.world l.c in
    (new : Log) (y : Symbol) → Judged (import_parts l.cx l.is_static l.symbol (drop l.at l.parts)) w l.log new y
    → Judged (import_parts l.cx l.is_static l.initial.symbol l.parts) w l.initial.log new y
