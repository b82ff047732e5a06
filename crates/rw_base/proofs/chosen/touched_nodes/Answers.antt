use Rattle.std.proofs.Common.{◌≡◌, ◌++◌, [], ◌∷◌, ◌+◌, length, sym, ap, ◌∙◌, subst, arith, length-append, Bool}
use Rattle.std.proofs.lemmas.Bool.{true≢false}
use Rattle.rw_base.specs.Chosen.{AreUntouched, KnowsUntouched}
use Rattle.rw_base.proofs.Touching.{none_if_not_some, knows_more}
use Rattle.rw_base.proofs.chosen.touched_nodes.Goals as goal
use Rattle.rw_base.proofs.chosen.touched_nodes.Goals.{then-is_some, else-is_some}

pub loop-n-init : goal.loop-n-init
loop-n-init c = record { long = ap length c.in_ok-touched.ensures.items; known = λ n lt e. absurd (omega arith) }

pub any_touched-is-requires : goal.any_touched-is-requires
any_touched-is-requires c = rw (c.requires.leaves, c.deref.ensures.value, c.loop-n.invariant.long) c.parts.ensures.below

pub loop-n-preserved : goal.loop-n-preserved
loop-n-preserved c =
    let t = c.args.tree.now in
    let n = c.loop-n.n in
    let touched = c.loop-n.touched.items in
    let items : c.push.new.self.items ≡ touched ++ c.if-is_some.is ∷ [] = c.in_ok-push.ensures.items in
    record {
      long = ap length items ∙ omega (arith, length-append {A = Bool}, c.loop-n.invariant.long);
      known = subst (KnowsUntouched t c.args.leaves.now c.args.nodes.now (n + 1)) (sym items)
          (knows_more t (λ m lt. c.node_count-count.ensures.tree.below m lt) c.args.leaves.now c.args.nodes.now touched n c.if-is_some.is (omega (arith, c.node_count-count.ensures.count)) c.loop-n.invariant.long c.loop-n.invariant.known
          (λ free. elim c.if-is_some.branch [
            | then-is_some w ↦ absurd (true≢false (sym w.if-is_some.true ∙ (sym w.is-is ∙ free)))
            | else-is_some w ↦ (none_if_not_some _ (sym w.if-is_some.ensures), subst (λ ts. AreUntouched c.args.leaves.now ts _) w.deref.ensures.value (subst (AreUntouched c.args.leaves.now w.deref.result.now) w.parts.ensures.parts (w.any_touched-is.ensures (sym w.is-is ∙ free))))
          ]));
    }
