use Rattle.std.proofs.Common.{arith}
use Rattle.java_lex.proofs.Escaping.{clear-plain, clear-pair, clear-end, found-none, escape-begins}
use Rattle.java_lex.proofs.escape.first_refused.Goals as goal

pub loop-at-preserved-then-text-at-eq92 : goal.loop-at-preserved-then-text-at-eq92
loop-at-preserved-then-text-at-eq92 c =
    clear-pair _ _ _ c.loop-at.invariant c.loop-at-test.true c.if-text-at-eq92.true
    (found-none c.args.escape c.args.text.now c.loop-at.at c.longest.result c.requires c.longest.ensures c.if-longest-ne0.false)

pub loop-at-preserved : goal.loop-at-preserved
loop-at-preserved c =
    clear-plain _ _ _ (escape-begins c.args.escape c.requires) c.loop-at.invariant c.loop-at-test.true c.if-text-at-eq92.false

pub returns : goal.returns
returns c = clear-end _ _ c.loop-at.at (escape-begins c.args.escape c.requires) c.loop-at.invariant (omega arith)
