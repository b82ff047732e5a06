use Rattle.std.proofs.Common.{◌≡◌, ◌+◌, ◌-◌, ◌<◌, Err, Some, [], ◌∷◌, true, false, length, take, drop, sym, ap, subst, ◌∙◌, arith}
use Rattle.std.specs.Prelude.{codes}
use Rattle.std.proofs.lemmas.Bool.{eqb-true, eqb-false}
use Rattle.std.proofs.lemmas.Bool.Decides.{Decides-eqb}
use Rattle.std.proofs.lemmas.List.{take_rest, nil_from_length}
use Rattle.std.proofs.lemmas.Slice.Eq.{starts_is}
use Rattle.method_pattern.specs.declared.fault.PatternFault.TheVariants as pattern_fault
use Rattle.method_pattern.specs.Texts.{IsWrongAt}
use Rattle.method_pattern.specs.Reading.{IsExactly, IsTypeEnd}
use Rattle.method_pattern.proofs.Places.{first}
use Rattle.method_pattern.proofs.PartSteps.{first_other}
use Rattle.method_pattern.proofs.Shifts.{shifted}
use Rattle.method_pattern.proofs.TypeSteps.{bracket_read, brackets_end, bracket_wrong, dots_wrong, closed}
use Rattle.method_pattern.proofs.type_text.read_brackets.Goals as goal

pub loop-at-preserved : goal.loop-at-preserved
loop-at-preserved c =
    let text = c.args.text.now in
    let at = c.loop-at.at in
    let rest = take (length text - at) (drop at text) in
    let whole = (starts_is Decides-eqb rest (91 ∷ 93 ∷ []) c.starts_with.result c.starts_with.ensures.value).0 c.loop-at-test.true in
    record {
      twice = omega (arith, c.loop-at.invariant.twice);
      read = bracket_read text c.loop-at.dimensions at (drop 2 rest) c.loop-at.invariant.read (sym (take_rest text at) ∙ whole);
    }

pub returns-then-is_empty-clause-ok : goal.returns-then-is_empty-clause-ok
returns-then-is_empty-clause-ok c =
    let text = c.args.text.now in
    let at = c.loop-at.at in
    let rest = take (length text - at) (drop at text) in
    let empty : drop at text ≡ [] =
    sym (take_rest text at) ∙ nil_from_length rest (eqb-true (length rest) 0 (sym c.is_empty.ensures ∙ c.if-is_empty.true)) in
    brackets_end text c.loop-at.dimensions at false c.loop-at.invariant.read empty

pub returns-then-starts_with-clause-fault : goal.returns-then-starts_with-clause-fault
returns-then-starts_with-clause-fault c n e =
    let text = c.args.text.now in
    let at = c.loop-at.at in
    let rest = take (length text - at) (drop at text) in
    let same : at + 1 ≡ n = cc in
    let whole = (starts_is Decides-eqb rest (91 ∷ []) c.starts_with-2.result c.starts_with-2.ensures.value).0 c.if-starts_with.true in
    let other : first (drop 1 rest) ≡ Some 93 → ⊥ = λ f. (
    let t = closed rest c.starts_with.result c.starts_with.ensures.value whole f in
    let g : true ≡ false = sym t ∙ c.loop-at-test.false in cc) in
    subst (IsWrongAt (IsTypeEnd true) text) same
    (bracket_wrong text c.loop-at.dimensions at (drop 1 rest) c.loop-at.invariant.read (sym (take_rest text at) ∙ whole) other)

pub returns-in-Ok-clause-ok : goal.returns-in-Ok-clause-ok
returns-in-Ok-clause-ok c =
    let text = c.args.text.now in
    let at = c.loop-at.at in
    brackets_end text c.loop-at.dimensions at true c.loop-at.invariant.read (sym (take_rest text at) ∙ c.in-Ok.ensures.ok)

pub returns-in-Err-clause-fault : goal.returns-in-Err-clause-fault
returns-in-Err-clause-fault c n e =
    let text = c.args.text.now in
    let at = c.loop-at.at in
    let rest = take (length text - at) (drop at text) in
    let is : c.behind.result ≡ pattern_fault.At n = cc in
    let m = shifted at n c.in-Err.fault c.behind.result c.behind.ensures is in
    let some : 0 < length (drop at text) =
    omega (arith, eqb-false (length rest) 0 (sym c.is_empty.ensures ∙ c.if-is_empty.false), ap length (take_rest text at)) in
    let other : first (drop at text) ≡ Some 91 → ⊥ = λ f.
    first_other 91 rest c.starts_with-2.result c.starts_with-2.ensures.value c.if-starts_with.false (ap first (take_rest text at) ∙ f) in
    subst (IsWrongAt (IsTypeEnd true) text) m.1.1
    (dots_wrong text c.loop-at.dimensions at m.0 c.loop-at.invariant.read some other
    (subst (λ x. IsWrongAt (IsExactly (codes "...")) x m.0) (take_rest text at) (c.in-Err.ensures.fault m.0 (ap Err m.1.0))))
