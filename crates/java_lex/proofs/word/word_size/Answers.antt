use Rattle.std.proofs.Common.{arith, ◌+◌}
use Rattle.java_lex.proofs.Wording.{no-word, grown-init, grown-more, grown-end, rest-first}
use Rattle.java_lex.proofs.word.word_size.Goals as goal

pub returns-then-at-eq0 : goal.returns-then-at-eq0
returns-then-at-eq0 c = no-word _ _ c.first_size-at.ensures c.if-at-eq0.true

pub loop-size-init : goal.loop-size-init
loop-size-init c =
    grown-init _ _ _ c.first_size-at.ensures c.if-at-eq0.false
    (rest-first _ c.args.text.now c.first_size-at.result _ c.next_size-size.ensures)

pub loop-size-preserved : goal.loop-size-preserved
loop-size-preserved c =
    grown-more _ _ _ _ c.loop-size.invariant c.loop-size-test.true
    (rest-first _ c.args.text.now (c.loop-size.at + c.loop-size.size) _ c.next_size-size-in-loop-size.ensures)

pub returns : goal.returns
returns c = grown-end _ _ _ c.loop-size.invariant (omega arith)
