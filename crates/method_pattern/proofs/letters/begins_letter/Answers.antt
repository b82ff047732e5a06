use Rattle.std.proofs.Common.{◌≡◌, true, false, sym, ap, subst, ◌∙◌, arith, inl, inr, ◌++◌}
use Rattle.std.proofs.lemmas.Bool.{cases_lt}
use Rattle.method_pattern.specs.Letters.{IsLetterOf}
use Rattle.method_pattern.proofs.letters.begins_letter.Goals as goal

pub loop-code-preserved : goal.loop-code-preserved
loop-code-preserved c k low high letter = elim (cases_lt k c.loop-code.code) [
  | inl below ↦ c.loop-code.invariant k low below letter
  | inr above ↦
      let same : k ≡ c.loop-code.code = omega arith in
      let is : c.is_letter_of.result ≡ true = c.is_letter_of.ensures.1 (subst (IsLetterOf c.args.behind_letters c.args.front.now) same letter) in
      (let f : true ≡ false = sym is ∙ c.if-is_letter_of.false in cc)
]

pub returns : goal.returns
returns c = (
  λ f. absurd (let g : false ≡ true = f in cc),
  λ letter.
      let whole = c.requires.first in
      let range = c.codes_of-low.ensures letter.0 (whole.0 ++ letter.1.0) (letter.1.1 ∙ ap (λ x. x ++ letter.1.0) whole.1) in
      absurd (c.loop-code.invariant letter.0 range.0 (omega (arith, range.1)) letter.1),
)
