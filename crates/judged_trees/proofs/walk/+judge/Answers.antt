use Rattle.std.proofs.Common.{◌∙◌, sym, ap, ◌+◌, length, drop, ◌++◌, ◌∷◌, [], arith}
use Rattle.rw_base.specs.Arena.{kind_of}
use Rattle.rw_base.specs.Laid.{kids_of, forest_of}
use Rattle.rw_base.specs.PartLaws.{leaf_next, node_next, none_next, below_next, node_below}
use Rattle.judged_trees.specs.Sites.{site_of}
use Rattle.judged_trees.proofs.Walking.{walking_start, walking_leaf, walking_node, walking_end, part_judged, fits}
use Rattle.judged_trees.proofs.Walking.{all_behind}
use Rattle.judged_trees.proofs.walk.+judge.Goals as goal
use Rattle.judged_trees.proofs.walk.+judge.Goals.{judge_parts-in-Leaf, judge_parts-in-Node+in_ok-judge_part-in-Node}

pub judge_parts-loop-from-init : goal.judge_parts-loop-from-init
judge_parts-loop-from-init g t c =
    let site = site_of c.args.tree.now c.args.node.0 c.args.parts.now c.args.given.now in
    record {
      walking = walking_start (g.T.TreeTables.tables c.args.tables.now) site (g.T.TreeTables.world c.args.tables.now)
          c.args.frames.now c.args.values.now.items c.args.log.now;
      below = c.requires.below;
    }

pub judge_parts-judge_part-requires : goal.judge_parts-judge_part-requires
judge_parts-judge_part-requires g t c κs within =
    let part = node_below (length c.args.tree.now.leaves) c.args.node.0 c.args.parts.now c.loop-from.from _ c.in-Node.m
    c.loop-from.invariant.below c.loop-from-test.true c.in-Node.is in (
      omega arith,
      (
        within.0,
        (
          within.1.0,
          (
            within.1.1,
            (
              c.requires.fits,
              (
                c.requires.node,
                (
                  c.requires.below,
                  (
                    c.loop-from-test.true,
                    (
                      part,
                      (
                        fits c.len-outer.result c.loop-from.frames c.args.frames.now c.loop-from.invariant.walking.left c.len-outer.ensures
                            c.loop-from.invariant.walking.frames,
                        fits c.len-base.result c.loop-from.values.items c.args.values.now.items c.loop-from.invariant.walking.vs
                            (c.len-base.ensures ∙ c.args.values.now.ok.0) c.loop-from.invariant.walking.values,
                      ),
                    ),
                  ),
                ),
              ),
            ),
          ),
        ),
      ),
    )

pub judge_parts-loop-from-preserved : goal.judge_parts-loop-from-preserved
judge_parts-loop-from-preserved g t c =
    let tables = g.T.TreeTables.tables c.args.tables.now in
    let site = site_of c.args.tree.now c.args.node.0 c.args.parts.now c.args.given.now in
    let w = g.T.TreeTables.world c.args.tables.now in
    let rows = c.args.tree.now.nodes in
    let ps = c.args.parts.now in
    let k = c.loop-from.from in
    let rest = forest_of rows (drop (k + 1) ps) in
    let below = below_next (length c.args.tree.now.leaves) c.args.node.0 ps k c.loop-from.invariant.below
    c.loop-from-test.true in
    elim c.match-part.branch [
      | judge_parts-in-Leaf d ↦
          let e = leaf_next rows ps k _ d.in-Leaf.field-0 c.loop-from-test.true d.in-Leaf.is in
          record {
            walking = rw (d.frames-is, d.values-is, d.log-is) (walking_leaf tables site w d.in-Leaf.field-0 rest
                c.args.frames.now c.loop-from.frames c.args.values.now.items c.loop-from.values.items c.args.log.now
                c.loop-from.log (rw e at c.loop-from.invariant.walking));
            below = below;
          }
      | judge_parts-in-Node+in_ok-judge_part-in-Node d ↦
          let e = node_next rows ps k _ d.in-Node.m c.loop-from-test.true d.in-Node.is in
          record {
            walking = rw (d.frames-is, d.values-is, d.log-is) (walking_node tables site w d.in-Node.m.0
                (kind_of rows d.in-Node.m.0) (kids_of rows d.in-Node.m.0) rest c.args.frames.now c.loop-from.frames
                d.judge_part.new.frames c.args.values.now.items c.loop-from.values.items d.judge_part.new.values.items
                c.args.log.now c.loop-from.log d.judge_part.new.log c.len-outer.result c.len-base.result
                c.len-outer.ensures (c.len-base.ensures ∙ c.args.values.now.ok.0) (rw e at c.loop-from.invariant.walking)
                (rw e at d.in_ok-judge_part-in-Node.ensures));
            below = below;
          }
    ]

pub judge_parts-returns-clause-node : goal.judge_parts-returns-clause-node
judge_parts-returns-clause-node g t c =
    let tables = g.T.TreeTables.tables c.args.tables.now in
    let site = site_of c.args.tree.now c.args.node.0 c.args.parts.now c.args.given.now in
    let w = g.T.TreeTables.world c.args.tables.now in
    let e = none_next c.args.tree.now.nodes c.args.parts.now c.loop-from.from c.loop-from-test.false in
    let base = c.len-base.result in
    let these = all_behind base c.deref.result.now ∙ ap (drop base) c.deref.ensures.value in
    let same = all_behind base c.deref-2.result.now ∙ ap (drop base) c.deref-2.ensures.value in
    walking_end tables site w c.args.frames.now c.loop-from.frames c.leave_scope.new.frames c.args.values.now.items
    c.loop-from.values.items c.args.log.now c.loop-from.log c.value_of.new.log c.len-outer.result c.len-base.result
    c.in_ok-value.value c.len-outer.ensures (c.len-base.ensures ∙ c.args.values.now.ok.0)
    (rw e at c.loop-from.invariant.walking) (rw these at c.in_ok-value.ensures) (rw same at c.in_ok-leave_scope.ensures)

pub judge_part-returns : goal.judge_part-returns
judge_part-returns g t c =
    let tables = g.T.TreeTables.tables c.args.tables.now in
    let site = site_of c.args.tree.now c.args.node.0 c.args.parts.now c.args.given.now in
    let w = g.T.TreeTables.world c.args.tables.now in
    let rows = c.args.tree.now.nodes in
    let m = c.args.m.0 in
    let base = c.args.base in
    let these = all_behind base c.deref.result.now ∙ ap (drop base) c.deref.ensures.value in
    let same = all_behind base c.deref-2.result.now ∙ ap (drop base) c.deref-2.ensures.value in
    part_judged tables site w m (kind_of rows m) (kids_of rows m) (forest_of rows (drop c.args.from c.args.parts.now))
    c.args.outer c.args.base c.in_ok-inner.inner c.args.frames.now c.bring_into_scope.new.frames c.judge_parts.new.frames
    c.args.values.now.items c.push.new.self.items c.args.log.now c.bring_into_scope.new.log c.judge_parts.new.log
    c.in_ok-value.value (rw these at c.in_ok-inner.ensures) (rw same at c.in_ok-bring_into_scope.ensures)
    (rw (sym c.parts.ensures.kids) at c.in_ok-value.ensures.node) (c.in_ok-push.ensures.items ∙ ap (λ vs. vs ++ c.in_ok-value.value ∷ []) c.in_ok-value.ensures.values)
