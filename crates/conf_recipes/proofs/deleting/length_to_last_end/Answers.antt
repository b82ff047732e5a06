use Rattle.std.proofs.Common.{◌∙◌, sym, arith}
use Rattle.conf_recipes.specs.PropertiesRecipes.{through_last_end}
use Rattle.conf_recipes.proofs.LastEnd.{end_kept, other_kept}
use Rattle.conf_recipes.proofs.deleting.length_to_last_end.Goals as goal
use Rattle.conf_recipes.proofs.deleting.length_to_last_end.Goals.{then-is_line_end, else-is_line_end}

pub loop-i-preserved : goal.loop-i-preserved
loop-i-preserved c =
    let text = c.args.text.now in
    let inside = c.loop-i.invariant.inside in
    elim c.if-is_line_end.branch [
      | then-is_line_end w ↦ record {
        kept = rw w.kept-is (end_kept text c.loop-i.i c.loop-i.kept (omega arith) (through_last_end text) (sym c.is_line_end.ensures ∙ w.if-is_line_end.true) c.loop-i.invariant.kept);
        inside = let e = w.kept-is in omega arith;
      }
      | else-is_line_end w ↦ record {
        kept = rw w.kept-is (other_kept text c.loop-i.i c.loop-i.kept (omega arith) (through_last_end text) (sym c.is_line_end.ensures ∙ w.if-is_line_end.false) c.loop-i.invariant.kept);
        inside = let e = w.kept-is in omega arith;
      }
    ]
