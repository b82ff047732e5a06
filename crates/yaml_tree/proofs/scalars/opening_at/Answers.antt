use Rattle.std.proofs.Common.{sym, ap, ◌∙◌}
use Rattle.std.specs.Prelude.{Some}
use Rattle.yaml_tree.proofs.ScalarSteps.{around_here, around_later}
use Rattle.yaml_tree.proofs.scalars.opening_at.Goals as goal

pub returns-then-is_around-clause-opening : goal.returns-then-is_around-clause-opening
returns-then-is_around-clause-opening c =
    ap Some c.leaves_of.ensures.first
    ∙ sym (around_here c.args.i c.args.tree.now.nodes c.args.n.0 c.requires.node
    (sym c.is_around.ensures ∙ c.if-is_around.true))

pub returns-clause-opening : goal.returns-clause-opening
returns-clause-opening c =
    c.requires.outer
    ∙ sym (around_later c.args.i c.args.tree.now.nodes c.args.n.0 c.requires.node
    (sym c.is_around.ensures ∙ c.if-is_around.false))
