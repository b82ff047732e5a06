use Rattle.std.proofs.Common.{arith, sym, ◌∙◌, inl, inr}
use Rattle.java_lex.proofs.Letters.{short-class, long-class, other-class, same-class}
use Rattle.java_lex.proofs.word.word_class.Goals as goal

pub returns-then-word-lt2 : goal.returns-then-word-lt2
returns-then-word-lt2 c = elim c.then-word-lt2.either [ inl a ↦ short-class _ a | inr b ↦ long-class c.args.word.now (omega arith) ]

pub returns-then-eq : goal.returns-then-eq
returns-then-eq c =
    same-class _ c.slot_word.result.now c.slot_of-slot.result c.slot_class.result c.slot_of-slot.ensures.inside c.slot_word.ensures
    (sym c.eq.ensures ∙ c.if-eq.true) (omega arith) c.slot_class.ensures

pub returns-else-eq : goal.returns-else-eq
returns-else-eq c =
    other-class c.args.word.now c.slot_word.result.now c.slot_of-slot.result c.slot_of-slot.ensures.value c.slot_word.ensures
    (sym c.eq.ensures ∙ c.if-eq.false)
