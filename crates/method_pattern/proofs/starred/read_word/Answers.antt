use Rattle.std.proofs.Common.{◌≡◌, true, false, sym, subst, ◌∙◌}
use Rattle.std.proofs.lemmas.Slice.Eq.{bytes_eq-Decides}
use Rattle.method_pattern.specs.Texts.{IsWrongAt}
use Rattle.method_pattern.specs.Reading.{IsExactly}
use Rattle.method_pattern.proofs.WordFronts.{not_word}
use Rattle.method_pattern.proofs.starred.read_word.Goals as goal

pub returns-clause-fault : goal.returns-clause-fault
returns-clause-fault c n e =
    let same : c.common.result ≡ n = cc in
    subst (IsWrongAt (IsExactly c.args.word.now) c.args.text.now) (sym c.common.ensures.size ∙ same)
    (not_word c.args.word.now c.args.text.now (λ is.
    let equal = (bytes_eq-Decides c.args.text.now c.args.word.now).1 is in
    (let f : true ≡ false = sym equal ∙ (sym c.eq.ensures ∙ c.if-eq.false) in cc)))
