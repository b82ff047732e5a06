use Rattle.std.proofs.Common.{◌≡◌, false, length, sym, subst, ◌∙◌, arith}
use Rattle.std.proofs.lemmas.Bool.{eqb-false}
use Rattle.method_pattern.specs.Texts.{IsWrongAt}
use Rattle.method_pattern.specs.Reading.{IsTypeEnd}
use Rattle.method_pattern.proofs.TypeSteps.{no_end_wrong}
use Rattle.method_pattern.proofs.type_text.read_end.Goals as goal

pub returns-then-not-is_empty-clause-fault : goal.returns-then-not-is_empty-clause-fault
returns-then-not-is_empty-clause-fault c n e =
    let same : 0 ≡ n = cc in
    let some = eqb-false (length c.args.text.now) 0 (sym c.is_empty.ensures ∙ c.if-not-is_empty.true) in
    subst (λ v. IsWrongAt (IsTypeEnd v) c.args.text.now n) (sym c.if-of_parameter.false)
    (subst (IsWrongAt (IsTypeEnd false) c.args.text.now) same (no_end_wrong c.args.text.now (omega (arith, some))))
