use Rattle.std.proofs.Common.{◌≡◌, ℕ, List, length, sym, subst, arith}
use Rattle.std.proofs.lemmas.Grind.{common_steps}
use Rattle.rw_grammar.specs.declared.cells.Cell.{Cell}
use Rattle.rw_grammar.specs.Cells.{Lays, grown, shape_at}
use Rattle.rw_grammar.proofs.Laying.{lays_push}
use Rattle.rw_grammar.proofs.cells.add.Goals as goal

pub returns-clause-lays : goal.returns-clause-lays
returns-clause-lays c =
    let cells = c.args.cells.now.items in
    let e : c.len-n.result ≡ length cells = grind (arith, common_steps) in
    subst (λ (n : ℕ). Lays cells c.push.new.self.items n (grown (shape_at cells) c.args.cell)) (sym e)
    (subst (λ (cs : List Cell). Lays cells cs (length cells) (grown (shape_at cells) c.args.cell)) (sym c.in_ok-push.ensures.items)
    (lays_push cells c.args.cell c.requires.cells c.requires.named))
