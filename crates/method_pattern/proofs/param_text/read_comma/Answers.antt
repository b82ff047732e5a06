use Rattle.std.proofs.Common.{◌≡◌, ◌+◌, ◌<◌, Some, None, length, get_or, drop, sym, ap, subst, ◌∙◌, arith}
use Rattle.std.specs.Prelude.{◌==◌}
use Rattle.std.proofs.lemmas.List.{take_rest, drop_all}
use Rattle.method_pattern.specs.Texts.{IsWrongAt}
use Rattle.method_pattern.specs.Reading.{IsRunSize, IsBehindParam}
use Rattle.method_pattern.proofs.Places.{first, first_at}
use Rattle.method_pattern.proofs.ParamSteps.{no_comma, comma_is}
use Rattle.method_pattern.proofs.param_text.read_comma.Goals as goal

pub returns-then-comma-text-clause-fault : goal.returns-then-comma-text-clause-fault
returns-then-comma-text-clause-fault c n e =
    let text = c.args.text.now in
    let size = c.blanks_size-comma.result in
    let same : size ≡ n = cc in
    let ends : first (drop size text) ≡ None = ap first (drop_all size text (omega (arith, c.if-comma-text.true))) in
    subst (IsWrongAt IsBehindParam text) same
    (no_comma text size c.requires.some c.blanks_size-comma.ensures (λ f. (let g : None ≡ Some 44 = sym ends ∙ f in cc)))

pub returns-then-text-comma-ne44-clause-fault : goal.returns-then-text-comma-ne44-clause-fault
returns-then-text-comma-ne44-clause-fault c n e =
    let text = c.args.text.now in
    let size = c.blanks_size-comma.result in
    let same : size ≡ n = cc in
    let lt : size < length text = omega (arith, c.if-comma-text.false, c.blanks_size-comma.ensures.inside) in
    subst (IsWrongAt IsBehindParam text) same
    (no_comma text size c.requires.some c.blanks_size-comma.ensures
    (λ f. c.if-text-comma-ne44.true (let g : Some (get_or text size 0) ≡ Some 44 = sym (first_at text size lt) ∙ f in cc)))

pub returns-clause-ok : goal.returns-clause-ok
returns-clause-ok c =
    let text = c.args.text.now in
    let size = c.blanks_size-comma.result in
    let lt : size < length text = omega (arith, c.if-comma-text.false, c.blanks_size-comma.ensures.inside) in
    comma_is text size c.blanks_size.result c.blanks_size-comma.ensures (first_at text size lt ∙ ap Some c.if-text-comma-ne44.false)
    (subst (λ s. IsRunSize (λ b. b == 32) s c.blanks_size.result) (take_rest text (size + 1)) c.blanks_size.ensures)
