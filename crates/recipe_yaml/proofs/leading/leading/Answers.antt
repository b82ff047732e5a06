use Rattle.std.proofs.Common.{◌∙◌, sym, arith}
use Rattle.recipe_yaml.proofs.Led.{column_stays}
use Rattle.recipe_yaml.proofs.leading.leading.Goals as goal

pub returns-then-are_same : goal.returns-then-are_same
returns-then-are_same c =
    column_stays c.args.book.now c.loop-k.k c.loop-k.last.items c.in_ok-next.next.items c.deref-in-loop-k.result.now c.deref.result.now c.are_same.result
    c.loop-k.invariant c.in_ok-next.ensures c.deref.ensures.value c.deref-in-loop-k.ensures.value
    (λ same. c.are_same.ensures same ∙ (c.deref-in-loop-k-2.ensures.value ∙ sym c.deref.ensures.value)) c.if-are_same.true (omega arith)
