use Rattle.std.proofs.Common.{◌≡◌, ◌+◌, true, false, sym, ◌∙◌, arith}
use Rattle.method_pattern.proofs.LetterSteps.{some_letter, front_of_letter, letter_front, first_taken, none_begun, none_ascii}
use Rattle.method_pattern.proofs.letters.begun.Goals as goal

pub loop-at-init : goal.loop-at-init
loop-at-init c = record { within = omega arith; begins = some_letter c.args.behind_letters }

pub begins_letter-requires-clause-first : goal.begins_letter-requires-clause-first
begins_letter-requires-clause-first c = first_taken c.args.text.now c.loop-at.at (omega arith)

pub loop-at-preserved : goal.loop-at-preserved
loop-at-preserved c =
    let letter = c.begins_letter.ensures.0 c.if-begins_letter.true in
    record { within = omega arith; begins = letter_front c.args.behind_letters _ letter.0 letter.1 }

pub returns-else-begins_letter : goal.returns-else-begins_letter
returns-else-begins_letter c = record {
  within = c.loop-at.invariant.within;
  begins = c.loop-at.invariant.begins;
  ends = λ lt b.
      let letter = front_of_letter c.args.behind_letters c.args.text.now (c.loop-at.at + 1) c.requires b in
      let is = c.begins_letter.ensures.1 letter in
      (let f : true ≡ false = sym is ∙ c.if-begins_letter.false in cc);
}

pub returns-in_default : goal.returns-in_default
returns-in_default c = none_begun c.args.behind_letters c.args.text.now c.requires (omega arith)

pub returns-in_default-2 : goal.returns-in_default-2
returns-in_default-2 c = none_ascii c.args.behind_letters c.args.text.now c.requires (omega arith)
