use Rattle.std.proofs.Common.{◌≡◌, ◌+◌, length, refl, sym, ◌∙◌, subst, arith, inl, inr}
use Rattle.std.proofs.lemmas.Bool.{false≢true, cases_order}
use Rattle.rw_grammar.specs.Parts.{rule_of}
use Rattle.rw_grammar.specs.Faults.{HasFault, left-recursion}
use Rattle.rw_grammar.specs.Cells.{rules_at}
use Rattle.rw_grammar.proofs.CellLaws.{rule_count}
use Rattle.rw_grammar.proofs.FaultLaws.{found_in, not_found_in, none_lower, least, found, by_answer}
use Rattle.rw_grammar.proofs.faults.least_fault.Goals as goal

pub returns-then-is_set-clause-some : goal.returns-then-is_set-clause-some
returns-then-is_set-clause-some c number rule h =
    by_answer (rules_at c.args.cells.now c.args.roots.now) (1, c.loop-i.i) (number, rule) h
    (least c.args.cells.now c.args.roots.now c.args.empty.now c.args.columns.now c.requires.known 1 c.loop-i.i c.loop-i-test.true (found c.args.cells.now c.args.roots.now c.args.empty.now c.args.columns.now c.requires.known 1 c.loop-i.i (found_in c.args.cells.now c.args.roots.now c.args.empty.now c.args.columns.now c.requires.known 1 c.loop-i.i c.in_ok-shared.shared.items c.as_slice.result.now c.in_ok-shared.ensures c.loop-i-test.true c.if-is_set.ensures c.as_slice.ensures.value)) c.loop-i.invariant (none_lower c.args.cells.now c.args.roots.now c.args.empty.now c.args.columns.now c.requires.known 1 c.loop-i.i (λ q s. absurd (omega arith)) (λ q s. absurd (omega arith)) (λ q s. absurd (omega arith)) (λ q s. absurd (omega arith)) (λ q s. absurd (omega arith))))

pub returns-then-is_set-2-clause-some : goal.returns-then-is_set-2-clause-some
returns-then-is_set-2-clause-some c number rule h =
    by_answer (rules_at c.args.cells.now c.args.roots.now) (2, c.loop-i.i) (number, rule) h
    (least c.args.cells.now c.args.roots.now c.args.empty.now c.args.columns.now c.requires.known 2 c.loop-i.i c.loop-i-test.true (found c.args.cells.now c.args.roots.now c.args.empty.now c.args.columns.now c.requires.known 2 c.loop-i.i (found_in c.args.cells.now c.args.roots.now c.args.empty.now c.args.columns.now c.requires.known 2 c.loop-i.i c.in_ok-empties.empties.items c.as_slice-in-loop-i.result.now c.in_ok-empties.ensures c.loop-i-test.true c.if-is_set-2.ensures c.as_slice-in-loop-i.ensures.value)) c.loop-i.invariant (none_lower c.args.cells.now c.args.roots.now c.args.empty.now c.args.columns.now c.requires.known 2 c.loop-i.i (λ q s. not_found_in c.args.cells.now c.args.roots.now c.args.empty.now c.args.columns.now c.requires.known 1 c.loop-i.i c.in_ok-shared.shared.items c.as_slice.result.now c.in_ok-shared.ensures c.loop-i-test.true c.if-is_set.ensures c.as_slice.ensures.value s) (λ q s. absurd (omega arith)) (λ q s. absurd (omega arith)) (λ q s. absurd (omega arith)) (λ q s. absurd (omega arith))))

pub returns-then-is_set-3-clause-some : goal.returns-then-is_set-3-clause-some
returns-then-is_set-3-clause-some c number rule h =
    by_answer (rules_at c.args.cells.now c.args.roots.now) (3, c.loop-i.i) (number, rule) h
    (least c.args.cells.now c.args.roots.now c.args.empty.now c.args.columns.now c.requires.known 3 c.loop-i.i c.loop-i-test.true (found c.args.cells.now c.args.roots.now c.args.empty.now c.args.columns.now c.requires.known 3 c.loop-i.i (found_in c.args.cells.now c.args.roots.now c.args.empty.now c.args.columns.now c.requires.known 3 c.loop-i.i c.in_ok-optional.optional.items c.as_slice-in-loop-i-2.result.now c.in_ok-optional.ensures c.loop-i-test.true c.if-is_set-3.ensures c.as_slice-in-loop-i-2.ensures.value)) c.loop-i.invariant (none_lower c.args.cells.now c.args.roots.now c.args.empty.now c.args.columns.now c.requires.known 3 c.loop-i.i (λ q s. not_found_in c.args.cells.now c.args.roots.now c.args.empty.now c.args.columns.now c.requires.known 1 c.loop-i.i c.in_ok-shared.shared.items c.as_slice.result.now c.in_ok-shared.ensures c.loop-i-test.true c.if-is_set.ensures c.as_slice.ensures.value s) (λ q s. not_found_in c.args.cells.now c.args.roots.now c.args.empty.now c.args.columns.now c.requires.known 2 c.loop-i.i c.in_ok-empties.empties.items c.as_slice-in-loop-i.result.now c.in_ok-empties.ensures c.loop-i-test.true c.if-is_set-2.ensures c.as_slice-in-loop-i.ensures.value s) (λ q s. absurd (omega arith)) (λ q s. absurd (omega arith)) (λ q s. absurd (omega arith))))

pub returns-then-is_set-4-clause-some : goal.returns-then-is_set-4-clause-some
returns-then-is_set-4-clause-some c number rule h =
    by_answer (rules_at c.args.cells.now c.args.roots.now) (5, c.loop-i.i) (number, rule) h
    (least c.args.cells.now c.args.roots.now c.args.empty.now c.args.columns.now c.requires.known 5 c.loop-i.i c.loop-i-test.true (found c.args.cells.now c.args.roots.now c.args.empty.now c.args.columns.now c.requires.known 5 c.loop-i.i (found_in c.args.cells.now c.args.roots.now c.args.empty.now c.args.columns.now c.requires.known 5 c.loop-i.i c.in_ok-absent.absent.items c.as_slice-in-loop-i-3.result.now c.in_ok-absent.ensures c.loop-i-test.true c.if-is_set-4.ensures c.as_slice-in-loop-i-3.ensures.value)) c.loop-i.invariant (none_lower c.args.cells.now c.args.roots.now c.args.empty.now c.args.columns.now c.requires.known 5 c.loop-i.i (λ q s. not_found_in c.args.cells.now c.args.roots.now c.args.empty.now c.args.columns.now c.requires.known 1 c.loop-i.i c.in_ok-shared.shared.items c.as_slice.result.now c.in_ok-shared.ensures c.loop-i-test.true c.if-is_set.ensures c.as_slice.ensures.value s) (λ q s. not_found_in c.args.cells.now c.args.roots.now c.args.empty.now c.args.columns.now c.requires.known 2 c.loop-i.i c.in_ok-empties.empties.items c.as_slice-in-loop-i.result.now c.in_ok-empties.ensures c.loop-i-test.true c.if-is_set-2.ensures c.as_slice-in-loop-i.ensures.value s) (λ q s. not_found_in c.args.cells.now c.args.roots.now c.args.empty.now c.args.columns.now c.requires.known 3 c.loop-i.i c.in_ok-optional.optional.items c.as_slice-in-loop-i-2.result.now c.in_ok-optional.ensures c.loop-i-test.true c.if-is_set-3.ensures c.as_slice-in-loop-i-2.ensures.value s) (λ q s. false≢true (sym c.if-branch.false ∙ c.in_ok-is_left_recursive.ensures.1 s)) (λ q s. absurd (omega arith))))

pub returns-then-branch-clause-some : goal.returns-then-branch-clause-some
returns-then-branch-clause-some c number rule h =
    by_answer (rules_at c.args.cells.now c.args.roots.now) (4, c.loop-i.i) (number, rule) h
    (least c.args.cells.now c.args.roots.now c.args.empty.now c.args.columns.now c.requires.known 4 c.loop-i.i c.loop-i-test.true (left-recursion refl (c.in_ok-is_left_recursive.ensures.0 c.if-branch.true)) c.loop-i.invariant (none_lower c.args.cells.now c.args.roots.now c.args.empty.now c.args.columns.now c.requires.known 4 c.loop-i.i (λ q s. not_found_in c.args.cells.now c.args.roots.now c.args.empty.now c.args.columns.now c.requires.known 1 c.loop-i.i c.in_ok-shared.shared.items c.as_slice.result.now c.in_ok-shared.ensures c.loop-i-test.true c.if-is_set.ensures c.as_slice.ensures.value s) (λ q s. not_found_in c.args.cells.now c.args.roots.now c.args.empty.now c.args.columns.now c.requires.known 2 c.loop-i.i c.in_ok-empties.empties.items c.as_slice-in-loop-i.result.now c.in_ok-empties.ensures c.loop-i-test.true c.if-is_set-2.ensures c.as_slice-in-loop-i.ensures.value s) (λ q s. not_found_in c.args.cells.now c.args.roots.now c.args.empty.now c.args.columns.now c.requires.known 3 c.loop-i.i c.in_ok-optional.optional.items c.as_slice-in-loop-i-2.result.now c.in_ok-optional.ensures c.loop-i-test.true c.if-is_set-3.ensures c.as_slice-in-loop-i-2.ensures.value s) (λ q s. absurd (omega arith)) (λ q s. absurd (omega arith))))

pub loop-i-preserved : goal.loop-i-preserved
loop-i-preserved c k s lt f =
    let here : (s ≡ c.loop-i.i → ⊥) = λ same. none_lower c.args.cells.now c.args.roots.now c.args.empty.now c.args.columns.now c.requires.known (k + 6) c.loop-i.i (λ q w. not_found_in c.args.cells.now c.args.roots.now c.args.empty.now c.args.columns.now c.requires.known 1 c.loop-i.i c.in_ok-shared.shared.items c.as_slice.result.now c.in_ok-shared.ensures c.loop-i-test.true c.if-is_set.ensures c.as_slice.ensures.value w) (λ q w. not_found_in c.args.cells.now c.args.roots.now c.args.empty.now c.args.columns.now c.requires.known 2 c.loop-i.i c.in_ok-empties.empties.items c.as_slice-in-loop-i.result.now c.in_ok-empties.ensures c.loop-i-test.true c.if-is_set-2.ensures c.as_slice-in-loop-i.ensures.value w) (λ q w. not_found_in c.args.cells.now c.args.roots.now c.args.empty.now c.args.columns.now c.requires.known 3 c.loop-i.i c.in_ok-optional.optional.items c.as_slice-in-loop-i-2.result.now c.in_ok-optional.ensures c.loop-i-test.true c.if-is_set-3.ensures c.as_slice-in-loop-i-2.ensures.value w) (λ q w. false≢true (sym c.if-branch.false ∙ c.in_ok-is_left_recursive.ensures.1 w)) (λ q w. not_found_in c.args.cells.now c.args.roots.now c.args.empty.now c.args.columns.now c.requires.known 5 c.loop-i.i c.in_ok-absent.absent.items c.as_slice-in-loop-i-3.result.now c.in_ok-absent.ensures c.loop-i-test.true c.if-is_set-4.ensures c.as_slice-in-loop-i-3.ensures.value w) k (omega arith) (subst (HasFault (rule_of (rules_at c.args.cells.now c.args.roots.now)) (length c.args.roots.now) k) same f) in
    elim (cases_order s c.loop-i.i) [
      | inl same ↦ here same
      | inr o ↦ elim o [ inl small ↦ c.loop-i.invariant k s small f | inr large ↦ absurd (omega arith) ]
    ]

pub returns-clause-none : goal.returns-clause-none
returns-clause-none c h number r lt f =
    let same : length (rules_at c.args.cells.now c.args.roots.now) ≡ length c.args.roots.now = rule_count c.args.cells.now c.args.roots.now in
    c.loop-i.invariant number r (omega (arith, same, lt, c.loop-i-test.false)) (subst (λ n. HasFault (rule_of (rules_at c.args.cells.now c.args.roots.now)) n number r) same f)
