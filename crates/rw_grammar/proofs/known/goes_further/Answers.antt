use Rattle.std.proofs.Common.{◌≡◌, sym, ◌∙◌, ap, true, arith, length-set}
use Rattle.std.proofs.lemmas.Bool.{false≢true}
use Rattle.std.proofs.lemmas.List.{get_or_default}
use Rattle.rw_grammar.specs.declared.cells.Cell.TheVariants as cell
use Rattle.rw_grammar.specs.Cells.{told_by, cell_at}
use Rattle.rw_grammar.proofs.Told.{told_right, set_right}
use Rattle.rw_grammar.proofs.known.goes_further.Goals as goal

pub loop-i-preserved : goal.loop-i-preserved
loop-i-preserved c =
    let cells = c.args.cells.now in
    let i = c.loop-i.i in
    let here : cell_at cells i ≡ c.index-cells-i.result = get_or_default cells i cell.End c.index-cells-i.result (omega arith) ∙ sym c.index-cells-i.is in
    let told = ap (told_by c.args.roots.now c.args.empty.now c.args.asked c.loop-i.known) here ∙ sym c.if-not-follows.ensures in
    record {
      long = length-set c.loop-i.known i true ∙ c.loop-i.invariant.long;
      right = set_right cells c.args.roots.now c.requires.laid c.args.asked c.loop-i.known i c.loop-i.invariant.right
          (told_right cells c.args.roots.now c.requires.laid c.args.asked c.args.empty.now c.loop-i.known i c.requires.empties c.loop-i.invariant.right (omega arith) told);
      closed = λ e. absurd (false≢true (sym e));
    }
