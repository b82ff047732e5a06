use Rattle.std.proofs.Common.{◌≤◌, List, [], sym, subst, arith, inl, inr, Bool}
use Rattle.std.proofs.lemmas.Bool.{cases_order}
use Rattle.std.proofs.lemmas.List.{get_or_past}
use Rattle.rw_grammar.specs.Parts.{rule_of}
use Rattle.rw_grammar.specs.Begins.{CanBegin}
use Rattle.rw_grammar.specs.Cells.{Tells, column_at, rules_at}
use Rattle.rw_grammar.proofs.Told.{none_begins}
use Rattle.rw_grammar.proofs.table.columns_of.Goals as goal

pub returns : goal.returns
returns c k =
    let cells = c.args.cells.now in
    let roots = c.args.roots.now in
    let columns = c.loop-class.columns.items in
    let inv = c.loop-class.invariant in
    let past : (c.loop-class.class ≤ k → Tells cells (CanBegin (rule_of (rules_at cells roots)) k) (column_at columns k)) = λ le.
    subst (λ (bs : List Bool). Tells cells (CanBegin (rule_of (rules_at cells roots)) k) bs) (sym (get_or_past columns k [] (omega (arith, inv.long, le))))
    (none_begins cells roots c.requires.laid k c.args.empty.now c.requires.empties (λ n j lt e. let below = c.class_count-count.ensures.above n k j lt e in omega arith)) in
    elim (cases_order k c.loop-class.class) [
      | inl same ↦ past (omega arith)
      | inr o ↦ elim o [ inl lt ↦ inv.told k lt | inr gt ↦ past (omega arith) ]
    ]
