use Rattle.std.proofs.Common.{ℕ, sym, ◌∙◌}
use Rattle.method_pattern.specs.Letters.{BeginsLetter}
use Rattle.method_pattern.proofs.LetterSteps.{decoded_letter, other_char, no_char}
use Rattle.method_pattern.proofs.letters.letter_at_front.Goals as goal
use Rattle.method_pattern.proofs.letters.letter_at_front.Goals.{in_default-via-in-Some+else-is_letter, in_default-via-in_default}

pub begun-requires : goal.begun-requires
begun-requires c = elim c.in_default.branch [
  | in_default-via-in-Some+else-is_letter w ↦
      other_char c.args.behind_letters c.args.text.now w.in-Some.c (sym c.decode-found.ensures.char ∙ w.in-Some.is)
      (sym w.is_letter.ensures ∙ w.if-is_letter.false)
  | in_default-via-in_default w ↦ no_char c.args.behind_letters c.args.text.now (sym c.decode-found.ensures.char ∙ w.in_default.is)
]

pub returns-in-Some : goal.returns-in-Some
returns-in-Some c =
    decoded_letter c.args.behind_letters c.args.text.now c.in-Some.c c.decode-found.result.1
    (sym c.decode-found.ensures.char ∙ c.in-Some.is) c.decode-found.ensures.size (sym c.is_letter.ensures ∙ c.if-is_letter.true)

pub returns-in_default : goal.returns-in_default
returns-in_default c = record { wrong = none; longest = c.begun.ensures }
  where
    none : (d : ℕ) → BeginsLetter c.args.behind_letters d c.args.text.now → ⊥
    none = elim c.in_default.branch [
      | in_default-via-in-Some+else-is_letter w ↦
          other_char c.args.behind_letters c.args.text.now w.in-Some.c (sym c.decode-found.ensures.char ∙ w.in-Some.is)
          (sym w.is_letter.ensures ∙ w.if-is_letter.false)
      | in_default-via-in_default w ↦ no_char c.args.behind_letters c.args.text.now (sym c.decode-found.ensures.char ∙ w.in_default.is)
    ]
