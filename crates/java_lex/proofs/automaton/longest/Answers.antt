use Rattle.std.proofs.Common.{arith, sym, ◌∙◌}
use Rattle.java_lex.proofs.Best.{best-init, turn-longer, turn-stays, best-dead, best-end}
use Rattle.java_lex.proofs.automaton.longest.Goals as goal
use Rattle.java_lex.proofs.automaton.longest.Goals.{then-found-ne0, else-found-ne0}

pub loop-at-init : goal.loop-at-init
loop-at-init c = best-init _ _ c.requires

pub returns-then-state-eq-DEAD : goal.returns-then-state-eq-DEAD
returns-then-state-eq-DEAD c =
    best-dead _ _ _ _ _ _ c.requires c.loop-at.invariant c.loop-at-test.true (omega (arith, c.type_inv.text c.loop-at.at))
    (sym c.next_state-state.ensures.value ∙ c.if-state-eq-DEAD.true)

pub loop-at-preserved : goal.loop-at-preserved
loop-at-preserved c = elim c.if-found-ne0.branch [
  | then-found-ne0 w ↦
      turn-longer _ _ _ _ _ _ _ _ _ _ c.loop-at.invariant c.loop-at-test.true (omega (arith, c.type_inv.text c.loop-at.at))
      c.next_state-state.ensures.value c.if-state-eq-DEAD.false c.state_class-found.ensures w.if-found-ne0.true w.class-is w.size-is
  | else-found-ne0 w ↦
      turn-stays _ _ _ _ _ _ _ _ _ _ c.loop-at.invariant c.loop-at-test.true (omega (arith, c.type_inv.text c.loop-at.at))
      c.next_state-state.ensures.value c.if-state-eq-DEAD.false c.state_class-found.ensures w.if-found-ne0.false w.class-is w.size-is
]

pub returns : goal.returns
returns c = best-end _ _ _ _ _ _ c.requires c.loop-at.invariant (omega arith)
