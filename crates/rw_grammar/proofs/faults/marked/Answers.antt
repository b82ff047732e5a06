use Rattle.std.proofs.Common.{◌≡◌, List, [], ◌∷◌, length, sym, ◌∙◌, ap, subst, arith, length-append, Bool, true, ◌||◌}
use Rattle.rw_grammar.specs.declared.cells.Cell.TheVariants as cell
use Rattle.std.proofs.lemmas.List.{get_or_default}
use Rattle.std.specs.Prelude.{◌↔◌}
use Rattle.rw_grammar.specs.Parts.{rule_of}
use Rattle.rw_grammar.specs.Cells.{cell_at, wrong_by, named_by, bit, Somewhere, rules_at, shape_at}
use Rattle.rw_grammar.proofs.FaultLaws.{one_more_mark}
use Rattle.rw_grammar.proofs.faults.marked.Goals as goal

pub loop-cell-preserved : goal.loop-cell-preserved
loop-cell-preserved c =
    let cells = c.args.cells.now in
    let i = c.loop-cell.cell-index in
    let marks = c.loop-cell.marks.items in
    let inv = c.loop-cell.invariant in
    let pushed = c.in_ok-push.ensures.items in
    let here : cell_at cells i ≡ c.cell-item.result = get_or_default cells i cell.End c.cell-item.result (omega arith) ∙ sym c.cell-item.is in
    record {
      long = ap length pushed ∙ omega (arith, inv.long, length-append marks (c.is_marked-mark.result ∷ []));
      told = λ n lt.
          subst (λ (bs : List Bool). (bit bs n ≡ true) ↔ Somewhere (rule_of (rules_at cells c.args.roots.now)) (length c.args.roots.now) c.args.number (shape_at cells n)) (sym pushed)
          (one_more_mark cells c.args.roots.now c.args.empty.now c.args.columns.now c.requires c.args.number marks i c.is_marked-mark.result inv.long (omega arith) inv.told
          (c.is_marked-mark.ensures
          ∙ (ap (λ (ms : List Bool). wrong_by c.args.number (length c.args.roots.now) c.args.empty.now c.args.columns.now c.cell-item.result || named_by ms c.cell-item.result) c.as_slice.ensures.value
          ∙ ap (λ x. wrong_by c.args.number (length c.args.roots.now) c.args.empty.now c.args.columns.now x || named_by marks x) (sym here))) n lt);
    }
