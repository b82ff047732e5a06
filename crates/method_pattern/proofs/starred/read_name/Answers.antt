use Rattle.std.proofs.Common.{◌≡◌, Err, true, false, ap, length, subst, sym, ◌∙◌, inl}
use Rattle.std.specs.Prelude.{codes}
use Rattle.std.proofs.lemmas.Slice.Eq.{bytes_eq-Decides}
use Rattle.std.proofs.lemmas.Result.{err_from_is_err_and}
use Rattle.method_pattern.specs.declared.fault.PatternFault.TheVariants as pattern_fault
use Rattle.method_pattern.specs.Texts.{IsWrongAt}
use Rattle.method_pattern.specs.Reading.{IsNameText, StarredFrom}
use Rattle.method_pattern.proofs.PartSteps.{name_of, name_wrong, constructor_wrong, stars_wrong, first_tested, first_other}
use Rattle.method_pattern.proofs.starred.read_name.Goals as goal
use Rattle.method_pattern.proofs.starred.read_name.Goals.{then-branch-via-then-branch, then-branch-via-else-branch+then-eq}

pub returns-then-starts_with-clause-fault : goal.returns-then-starts_with-clause-fault
returns-then-starts_with-clause-fault c n e =
    constructor_wrong c.args.text.now n (first_tested 60 c.args.text.now c.starts_with.result c.starts_with.ensures.value c.if-starts_with.true)
    (c.read_word.ensures.fault n e)

pub returns-in_err-has_letters-clause-fault : goal.returns-in_err-has_letters-clause-fault
returns-in_err-has_letters-clause-fault c n e =
    let p = err_from_is_err_and c.from_residual.result c.from_residual.ensures.1 in
    let is : c.in_err-has_letters.field-0.0 ≡ pattern_fault.At n = cc in
    name_wrong c.args.text.now n (first_other 60 c.args.text.now c.starts_with.result c.starts_with.ensures.value c.if-starts_with.false)
    (c.in_err-has_letters.ensures.fault n (ap Err is))

pub returns-then-branch-clause-ok : goal.returns-then-branch-clause-ok
returns-then-branch-clause-ok c = elim c.then-branch.branch [
  | then-branch-via-then-branch w ↦
      name_of c.args.text.now (subst (λ has. StarredFrom false has c.args.text.now) w.if-branch.true c.in_ok-has_letters.ensures.ok)
  | then-branch-via-else-branch+then-eq w ↦
      inl ((bytes_eq-Decides c.args.text.now w.as_slice.result.now).0 (sym w.eq.ensures ∙ w.if-eq.true) ∙ w.as_slice.ensures)
]

pub returns-clause-fault : goal.returns-clause-fault
returns-clause-fault c n e =
    let same : length c.args.text.now ≡ n = cc in
    let other : c.args.text.now ≡ codes "*" → ⊥ = λ is.
    let equal = (bytes_eq-Decides c.args.text.now c.as_slice.result.now).1 (is ∙ sym c.as_slice.ensures) in
    (let f : true ≡ false = sym equal ∙ (sym c.eq.ensures ∙ c.if-eq.false) in cc) in
    subst (IsWrongAt IsNameText c.args.text.now) same
    (stars_wrong c.args.text.now (first_other 60 c.args.text.now c.starts_with.result c.starts_with.ensures.value c.if-starts_with.false)
    other (subst (λ has. StarredFrom false has c.args.text.now) c.if-branch.false c.in_ok-has_letters.ensures.ok))
