use Rattle.std.proofs.Common.{rules, arith, inl, inr}
use Rattle.java_lex.proofs.Identifying.{no-identifier, is-identifier}
use Rattle.java_lex.proofs.word.is_identifier.Goals as goal

pub returns-then-size-eq0 : goal.returns-then-size-eq0
returns-then-size-eq0 c = (
  λ e. absurd (search rules),
  λ is. absurd (elim c.then-size-eq0.either [
    | inl none ↦ no-identifier c.args.text.now c.word_size-size.result c.word_size-size.ensures (inl none) is
    | inr less ↦ no-identifier c.args.text.now c.word_size-size.result c.word_size-size.ensures (inr (omega arith)) is
  ]),
)

pub returns : goal.returns
returns c =
    is-identifier c.args.text.now c.word_size-size.result c.word_class.result c.word_size-size.ensures c.if-size-eq0.false c.if-size-text.false
    c.word_class.ensures
