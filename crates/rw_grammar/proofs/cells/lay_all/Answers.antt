use Rattle.std.proofs.Common.{◌≡◌, ℕ, ◌+◌, ◌<◌, List, [], ◌∷◌, ◌++◌, length, take, sym, ◌∙◌, ap, arith, get_or, add-one}
use Rattle.std.proofs.Math.Seq.{take-suc}
use Rattle.rw_grammar.specs.declared.shape.Shape.{Shape}
use Rattle.rw_grammar.specs.Shapes.{before}
use Rattle.rw_grammar.specs.Cells.{shape_at}
use Rattle.rw_grammar.proofs.Laying.{lays_longer, lays_keep, below_push, alternatives_laid}
use Rattle.rw_grammar.proofs.cells.lay_all.Goals as goal

pub loop-rule-preserved : goal.loop-rule-preserved
loop-rule-preserved c =
    let mid = c.loop-rule.cells.items in
    let new = c.lay.new.cells.items in
    let y = c.in_ok-lay.field-0 in
    let ys = c.loop-rule.roots.items in
    let s = c.rule-item.result in
    let ss = c.args.rules.now in
    let k = c.loop-rule.rule-index in
    let a = c.in_ok-lay.ensures in
    let inv = c.loop-rule.invariant in
    let longer = lays_longer mid new y (before s (shape_at mid 0)) a in
    let pushed : c.push.new.self.items ≡ ys ++ y ∷ [] = c.in_ok-push.ensures.items in
    record {
      some = omega (arith, longer, inv.some);
      named = a.named;
      ends = lays_keep mid new y (before s (shape_at mid 0)) a 0 inv.some ∙ inv.ends;
      below = rw pushed (below_push (length mid) (length new) ys y inv.below longer a.inside);
      rules = rw pushed (alternatives_laid mid new ys y ss s k a inv.ends inv.below inv.rules (more_taken ss k s (omega arith) c.rule-item.is));
    }
  where
    more_taken : (xs : List Shape) (k : ℕ) (x : Shape) → k < length xs → x ≡ get_or xs k x → take (k + 1) xs ≡ take k xs ++ x ∷ []
    more_taken xs k x lt e = rw add-one (take-suc xs k x lt ∙ ap (λ (w : Shape). take k xs ++ w ∷ []) (sym e))
