use Rattle.std.proofs.Common.{ℕ, ◌<◌, ◌∙◌, sym, ap, length, arith}
use Rattle.written_bodies.specs.Bodies.{is_class}
use Rattle.written_bodies.proofs.Below.{own_below, nearer}
use Rattle.written_bodies.proofs.Own.{classes, of_class, of_classes, no_class}
use Rattle.written_bodies.proofs.Gathering.{walk_leaf, walk_node, walk_other, walk_end, all_hold}
use Rattle.written_bodies.proofs.members.+add_classes.Goals as goal
use Rattle.written_bodies.proofs.members.+add_classes.Goals.{in-Leaf}
use Rattle.written_bodies.proofs.members.+add_classes.Goals.{in-Node+then-is_class+in_ok-add_name-in-Node}
use Rattle.written_bodies.proofs.members.+add_classes.Goals.{in-Node+else-is_class+then-kind-eq-MEMBER+in_ok-add_classes-in-Node}
use Rattle.written_bodies.proofs.members.+add_classes.Goals.{in-Node+else-is_class+else-kind-eq-MEMBER}

pub add_name-requires : goal.add_name-requires
add_name-requires t c =
    own_below (length c.args.tree.now.leaves) (length c.args.tree.now.nodes) c.args.parts.now c.parts.result.now
    c.loop-part.part-index _ c.in-Node.m c.loop-part-test.true c.in-Node.is c.parts.ensures.below
    c.loop-part.invariant.below

pub add_classes-requires : goal.add_classes-requires
add_classes-requires t c =
    let leaf_count = length c.args.tree.now.leaves in
    let n = length c.args.tree.now.nodes in
    let ps = c.args.parts.now in
    let own = c.parts-then-kind-eq-MEMBER.result.now in
    let k = c.loop-part.part-index in
    let lt = c.loop-part-test.true in
    let below = c.parts-then-kind-eq-MEMBER.ensures.below in
    let near = nearer leaf_count n ps own k _ c.in-Node.m lt c.in-Node.is below in (
      omega (arith, near),
      own_below leaf_count n ps own k _ c.in-Node.m lt c.in-Node.is below c.loop-part.invariant.below,
    )

pub loop-part-preserved : goal.loop-part-preserved
loop-part-preserved t c =
    let tree = c.args.tree.now in
    let ls = tree.leaves in
    let rows = tree.nodes in
    let ps = c.args.parts.now in
    let out = c.args.out.now in
    let k = c.loop-part.part-index in
    let lt = c.loop-part-test.true in
    let inv = c.loop-part.invariant in
    let inside = λ (i : ℕ). i < length ls in
    elim c.match-part.branch [
      | in-Leaf w ↦ rw w.out-is (walk_leaf inside (classes ls) tree ps out _ k inv _ _ lt w.in-Leaf.is)
      | in-Node+then-is_class+in_ok-add_name-in-Node w ↦ rw w.out-is
          (walk_node inside (classes ls) tree ps out _ k inv _ w.in-Node.m _ _ lt w.in-Node.is
          (of_class rows w.in-Node.m.0 _ w.parts.ensures.kids ls
          (ap is_class (sym w.kind-kind.ensures) ∙ (sym w.is_class.ensures ∙ w.if-is_class.true)))
          w.in_ok-add_name-in-Node.ensures.name w.in_ok-add_name-in-Node.ensures.inside)
      | in-Node+else-is_class+then-kind-eq-MEMBER+in_ok-add_classes-in-Node w ↦ rw w.out-is
          (walk_node inside (classes ls) tree ps out _ k inv _ w.in-Node.m _ _ lt w.in-Node.is
          (of_classes rows w.in-Node.m.0 _ w.parts-then-kind-eq-MEMBER.ensures.kids ls
          (ap is_class (sym w.kind-kind.ensures) ∙ (sym w.is_class.ensures ∙ w.if-is_class.false))
          (sym w.kind-kind.ensures ∙ w.if-kind-eq-MEMBER.true))
          w.in_ok-add_classes-in-Node.ensures.names w.in_ok-add_classes-in-Node.ensures.inside)
      | in-Node+else-is_class+else-kind-eq-MEMBER w ↦ rw w.out-is
          (walk_other inside (classes ls) tree ps out _ k inv _ w.in-Node.m lt w.in-Node.is
          (no_class rows w.in-Node.m.0 ls
          (ap is_class (sym w.kind-kind.ensures) ∙ (sym w.is_class.ensures ∙ w.if-is_class.false))
          (λ e. w.if-kind-eq-MEMBER.false (w.kind-kind.ensures ∙ e))))
    ]

pub returns : goal.returns
returns t c =
    let tree = c.args.tree.now in
    let ls = tree.leaves in
    let rows = tree.nodes in
    let ps = c.args.parts.now in
    let out = c.args.out.now in
    let k = c.loop-part.part-index in
    let past = c.loop-part-test.false in
    let inside = λ (i : ℕ). i < length ls in
    record {
      names = walk_end inside (classes ls) tree ps out _ k c.loop-part.invariant past;
      inside = all_hold inside (classes ls) tree ps out _ k c.loop-part.invariant past;
    }
