use Rattle.std.proofs.Common.{◌<◌, ◌≤◌, length, sym, subst}
use Rattle.rw_base.specs.Arena.{Arena, end_of}
use Rattle.rw_base.proofs.Tiles.{within}
use Rattle.rw_base.proofs.tree.Tree.leaf.Goals as goal

pub returns-clause-prefix : goal.returns-clause-prefix
returns-clause-prefix c =
    let lt : c.args.i < length c.self.inside.leaves.items = subst (λ (t : Arena). c.args.i < length t.leaves) (sym c.self.view_is) c.requires in
    (within 0 c.self.inside.leaves.items c.args.i c.index.result.now c.self.invariant.tile lt c.index.ensures).prefix

pub returns-clause-text : goal.returns-clause-text
returns-clause-text c =
    let lt : c.args.i < length c.self.inside.leaves.items = subst (λ (t : Arena). c.args.i < length t.leaves) (sym c.self.view_is) c.requires in
    (within 0 c.self.inside.leaves.items c.args.i c.index.result.now c.self.invariant.tile lt c.index.ensures).text

pub returns-clause-inside : goal.returns-clause-inside
returns-clause-inside c =
    let lt : c.args.i < length c.self.inside.leaves.items = subst (λ (t : Arena). c.args.i < length t.leaves) (sym c.self.view_is) c.requires in
    subst (λ (t : Arena). c.index.result.now.to ≤ end_of t) c.self.view_is (within 0 c.self.inside.leaves.items c.args.i c.index.result.now c.self.invariant.tile lt c.index.ensures).before
