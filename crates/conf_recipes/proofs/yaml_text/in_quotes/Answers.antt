use Rattle.std.proofs.Common.{ℕ, List, [], ◌∷◌, ◌++◌, sym, ◌∙◌, ap, arith}
use Rattle.conf_recipes.proofs.YamlQuotes.{doubled_quote, doubled_other, doubled_end}
use Rattle.conf_recipes.proofs.yaml_text.in_quotes.Goals as goal
use Rattle.conf_recipes.proofs.yaml_text.in_quotes.Goals.{then-b-eq39+in_ok-push-2, else-b-eq39}

pub loop-b-preserved : goal.loop-b-preserved
loop-b-preserved c =
    elim c.if-b-eq39.branch [
      | then-b-eq39+in_ok-push-2 w ↦
          let step = doubled_quote c.loop-b.out.items c.args.text.now c.loop-b.b-index (omega arith) w.if-b-eq39.true in
          cc (step, c.loop-b.invariant, w.out-is, w.in_ok-push-2.ensures.items, c.in_ok-push-3.ensures.items)
      | else-b-eq39 w ↦
          let step = doubled_other c.loop-b.out.items c.args.text.now c.loop-b.b-index (omega arith) w.if-b-eq39.false in
          cc (step, c.loop-b.invariant, w.out-is, c.in_ok-push-3.ensures.items)
    ]

pub returns : goal.returns
returns c =
    c.in_ok-push-4.ensures.items
    ∙ ap (λ (o : List ℕ). o ++ 39 ∷ []) (sym (c.loop-b.invariant ∙ doubled_end c.loop-b.out.items c.args.text.now c.loop-b.b-index (omega arith)))
