use Rattle.j_attrib.proofs.PrimarySteps.{super_behind}
use Rattle.j_attrib.proofs.primaries.behind_dot.Goals as goal

pub returns-then-word-eq-SUPER : goal.returns-then-word-eq-SUPER
returns-then-word-eq-SUPER g c =
    rw (c.in-Some.is, c.expr-then-word-eq-SUPER.ensures) (super_behind c.args.u.now c.args.before.now c.args.word
    c.in-Some.leaf c.args.values.now (g.C.Classes.world c.args.c.now) c.args.log.now c.qualified_super.new.log
    c.in_ok-ty-3.ty c.if-word-eq-SUPER.true c.in_ok-ty-3.ensures.judged)
