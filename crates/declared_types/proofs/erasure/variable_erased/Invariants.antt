use Rattle.std.proofs.Common.{◌≤◌, ◌+◌, ◌∷◌, List, drop, length}
use Rattle.dialogue.specs.Told.{Told}
use Rattle.jtypes.specs.declared.ask.Ask.{Ask}
use Rattle.jtypes.specs.declared.types.JType.{JType}
use Rattle.declared_types.specs.Erasure.{erasure, variable_erased}
use Rattle.declared_types.proofs.erasure.variable_erased.Given as goal

abbrev pub invariant-loop-left : goal.invariant-loop-left
invariant-loop-left g l = record {
  within : l.at ≤ length l.outer + 1;
  goes_on : (new : List Ask) (t : JType)
      → Told (erasure l.left (drop l.at (l.own ∷ l.outer)) l.variable) (g.C.Classes.world l.c) l.asks new t
      → Told (variable_erased (l.own ∷ l.outer) l.fn.name) (g.C.Classes.world l.c) l.initial.asks new t;
}

abbrev pub decreases-loop-left : goal.decreases-loop-left
decreases-loop-left g l = l.left
