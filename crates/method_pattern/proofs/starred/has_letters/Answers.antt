use Rattle.std.proofs.Common.{◌≡◌, ◌+◌, ◌-◌, ◌<◌, false, length, get_or, take, drop, sym, ap, subst, ◌∙◌, arith, length-drop}
use Rattle.std.proofs.lemmas.List.{take_rest, drop_more}
use Rattle.method_pattern.specs.Texts.{IsWrongAt}
use Rattle.method_pattern.specs.Reading.{StarredFrom}
use Rattle.method_pattern.specs.Letters.{IsFront}
use Rattle.method_pattern.specs.declared.letters.Front.TheVariants.{Letter, Begun}
use Rattle.method_pattern.proofs.StarredSteps.{star_read, letter_read, some_size, not_starred}
use Rattle.method_pattern.proofs.starred.has_letters.Goals as goal

pub loop-at-preserved-then-text-at-eq42 : goal.loop-at-preserved-then-text-at-eq42
loop-at-preserved-then-text-at-eq42 c =
    star_read c.args.text.now c.loop-at.at c.loop-at.behind_letters c.loop-at.invariant c.loop-at-test.true c.if-text-at-eq42.true

pub loop-at-smaller : goal.loop-at-smaller
loop-at-smaller c =
    let rest = take (length c.args.text.now - c.loop-at.at) (drop c.loop-at.at c.args.text.now) in
    let some = some_size c.loop-at.behind_letters rest c.in-Letter.size c.in-Letter.ensures in
    omega (arith, some, c.loop-at-test.true)

pub loop-at-preserved : goal.loop-at-preserved
loop-at-preserved c =
    letter_read c.args.text.now c.loop-at.at c.in-Letter.size c.loop-at.behind_letters c.loop-at.invariant
    (subst (IsFront c.loop-at.behind_letters (Letter c.in-Letter.size)) (take_rest c.args.text.now c.loop-at.at) c.in-Letter.ensures)

pub returns-in-Begun-clause-fault : goal.returns-in-Begun-clause-fault
returns-in-Begun-clause-fault c n e =
    let same : c.loop-at.at + c.in-Begun.size ≡ n = cc in
    let left = drop c.loop-at.at c.args.text.now in
    let some : 0 < length left = omega (arith, length-drop c.loop-at.at c.args.text.now, c.loop-at-test.true) in
    let head : get_or left 0 0 ≡ get_or c.args.text.now c.loop-at.at 0 =
    ap (λ s. get_or s 0 0) (drop_more c.args.text.now c.loop-at.at 0 c.loop-at-test.true) in
    subst (IsWrongAt (StarredFrom false) c.args.text.now) same
    (c.loop-at.invariant.fault c.in-Begun.size (not_starred c.loop-at.behind_letters left c.in-Begun.size some
    (λ star. c.if-text-at-eq42.false (sym head ∙ star))
    (subst (IsFront c.loop-at.behind_letters (Begun c.in-Begun.size)) (take_rest c.args.text.now c.loop-at.at) c.in-Begun.ensures)))
