use Rattle.std.proofs.Common.{◌≡◌, ℕ, List, ◌∙◌, ap, subst}
use Rattle.std.specs.Prelude.{Ok}
use Rattle.rw_grammar.specs.declared.cells.Cell.{Cell}
use Rattle.rw_grammar.specs.Parts.{Parts, rule_of}
use Rattle.rw_grammar.specs.Shapes.{all_parts}
use Rattle.rw_grammar.specs.Begins.{CanBeEmpty, CanBegin}
use Rattle.rw_grammar.specs.Faults.{IsSound, IsLeastFault}
use Rattle.rw_grammar.specs.Cells.{Tells, rules_at, column_at}
use Rattle.rw_grammar.proofs.FaultLaws.{wrong_answer}
use Rattle.rw_grammar.proofs.table.Table.checked.Goals as goal

pub returns-in-Some-clause-wrong : goal.returns-in-Some-clause-wrong
returns-in-Some-clause-wrong c number rule h =
    let a = c.as_slice-cells_of.result.now in
    let b = c.as_slice-roots_of.result.now in
    let e : rules_at a b ≡ all_parts c.args.rules =
    ap (λ (cs : List Cell). rules_at cs b) c.as_slice-cells_of.ensures.value ∙ (ap (rules_at c.lay_all.new.cells.items) c.as_slice-roots_of.ensures.value ∙ (c.in_ok-lay_all.ensures.rules ∙ ap all_parts c.as_slice.ensures)) in
    wrong_answer (all_parts c.args.rules) c.in-Some.number c.in-Some.rule number rule h
    (subst (λ (R : List Parts). IsLeastFault R c.in-Some.number c.in-Some.rule) e (c.in_ok-number.ensures.some c.in-Some.number c.in-Some.rule (ap Ok c.in-Some.is)))

pub returns-clause-sound : goal.returns-clause-sound
returns-clause-sound c =
    let a = c.as_slice-cells_of.result.now in
    let b = c.as_slice-roots_of.result.now in
    let e : rules_at a b ≡ rules_at c.lay_all.new.cells.items c.lay_all.new.roots.items = ap (λ (cs : List Cell). rules_at cs b) c.as_slice-cells_of.ensures.value ∙ ap (rules_at c.lay_all.new.cells.items) c.as_slice-roots_of.ensures.value in
    subst IsSound e (c.in_ok-number.ensures.none (ap Ok c.in_default.is))

pub invariant_of-result : goal.invariant_of-result
invariant_of-result c =
    let cells = c.lay_all.new.cells.items in
    let roots = c.lay_all.new.roots.items in
    let p = c.as_slice-cells_of.ensures.value in
    let q = c.as_slice-roots_of.ensures.value in
    let a = c.as_slice-cells_of.result.now in
    let b = c.as_slice-roots_of.result.now in
    let e : rules_at a b ≡ rules_at cells roots = ap (λ (cs : List Cell). rules_at cs b) p ∙ ap (rules_at cells) q in
    let empty = c.in_ok-empty.empty.items in
    let columns = c.in_ok-columns.columns.items in
    record {
      laid = c.in_ok-lay_all.ensures.laid;
      empties = subst (λ (rs : List ℕ). Tells cells (CanBeEmpty (rule_of (rules_at cells rs))) empty) q (subst (λ (cs : List Cell). Tells cs (CanBeEmpty (rule_of (rules_at cs b))) empty) p c.in_ok-empty.ensures);
      begins = λ k. subst (λ (rs : List ℕ). Tells cells (CanBegin (rule_of (rules_at cells rs)) k) (column_at columns k)) q (subst (λ (cs : List Cell). Tells cs (CanBegin (rule_of (rules_at cs b)) k) (column_at columns k)) p (c.in_ok-columns.ensures k));
      sound = subst IsSound e (c.in_ok-number.ensures.none (ap Ok c.in_default.is));
    }
