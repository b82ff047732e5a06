use Rattle.std.proofs.Common.{◌∙◌, sym, length, arith}
use Rattle.written_bodies.specs.Bodies.{IsFieldOf}
use Rattle.written_bodies.proofs.Below.{own_below, nearer}
use Rattle.written_bodies.proofs.Own.{fields, of_fields, of_member, no_field}
use Rattle.written_bodies.proofs.Gathering.{walk_leaf, walk_node, walk_other, walk_end, all_hold}
use Rattle.written_bodies.proofs.fields.+add_fields.Goals as goal
use Rattle.written_bodies.proofs.fields.+add_fields.Goals.{in-Leaf}
use Rattle.written_bodies.proofs.fields.+add_fields.Goals.{in-Node+then-kind-eq-MEMBER+in_ok-add_fields-in-Node}
use Rattle.written_bodies.proofs.fields.+add_fields.Goals.{in-Node+else-kind-eq-MEMBER+then-kind-eq-MEMBER_REST+in_ok-add_rest-in-Node}
use Rattle.written_bodies.proofs.fields.+add_fields.Goals.{in-Node+else-kind-eq-MEMBER+else-kind-eq-MEMBER_REST}

pub add_fields-requires : goal.add_fields-requires
add_fields-requires t c =
    let leaf_count = length c.args.tree.now.leaves in
    let n = length c.args.tree.now.nodes in
    let ps = c.args.parts.now in
    let own = c.parts.result.now in
    let k = c.loop-part.part-index in
    let lt = c.loop-part-test.true in
    let below = c.parts.ensures.below in
    let near = nearer leaf_count n ps own k _ c.in-Node.m lt c.in-Node.is below in (
      omega (arith, near),
      own_below leaf_count n ps own k _ c.in-Node.m lt c.in-Node.is below c.loop-part.invariant.below,
    )

pub add_rest-requires : goal.add_rest-requires
add_rest-requires t c =
    own_below (length c.args.tree.now.leaves) (length c.args.tree.now.nodes) c.args.parts.now c.parts-then-kind-eq-MEMBER_REST.result.now
    c.loop-part.part-index _ c.in-Node.m c.loop-part-test.true c.in-Node.is c.parts-then-kind-eq-MEMBER_REST.ensures.below
    c.loop-part.invariant.below

pub loop-part-preserved : goal.loop-part-preserved
loop-part-preserved t c =
    let tree = c.args.tree.now in
    let ls = tree.leaves in
    let rows = tree.nodes in
    let ps = c.args.parts.now in
    let out = c.args.out.now in
    let k = c.loop-part.part-index in
    let lt = c.loop-part-test.true in
    let inv = c.loop-part.invariant in
    elim c.match-part.branch [
      | in-Leaf w ↦ rw w.out-is (walk_leaf (IsFieldOf tree) (fields ls) tree ps out _ k inv _ _ lt w.in-Leaf.is)
      | in-Node+then-kind-eq-MEMBER+in_ok-add_fields-in-Node w ↦ rw w.out-is
          (walk_node (IsFieldOf tree) (fields ls) tree ps out _ k inv _ w.in-Node.m _ _ lt w.in-Node.is
          (of_fields rows w.in-Node.m.0 _ w.parts.ensures.kids ls
          (sym w.kind-kind.ensures ∙ w.if-kind-eq-MEMBER.true))
          w.in_ok-add_fields-in-Node.ensures.fields w.in_ok-add_fields-in-Node.ensures.inside)
      | in-Node+else-kind-eq-MEMBER+then-kind-eq-MEMBER_REST+in_ok-add_rest-in-Node w ↦ rw w.out-is
          (walk_node (IsFieldOf tree) (fields ls) tree ps out _ k inv _ w.in-Node.m _ _ lt w.in-Node.is
          (of_member rows w.in-Node.m.0 _ w.parts-then-kind-eq-MEMBER_REST.ensures.kids ls
          (λ e. w.if-kind-eq-MEMBER.false (w.kind-kind.ensures ∙ e))
          (sym w.kind-kind.ensures ∙ w.if-kind-eq-MEMBER_REST.true))
          w.in_ok-add_rest-in-Node.ensures.fields w.in_ok-add_rest-in-Node.ensures.inside)
      | in-Node+else-kind-eq-MEMBER+else-kind-eq-MEMBER_REST w ↦ rw w.out-is
          (walk_other (IsFieldOf tree) (fields ls) tree ps out _ k inv _ w.in-Node.m lt w.in-Node.is
          (no_field rows w.in-Node.m.0 ls (λ e. w.if-kind-eq-MEMBER.false (w.kind-kind.ensures ∙ e))
          (λ e. w.if-kind-eq-MEMBER_REST.false (w.kind-kind.ensures ∙ e))))
    ]

pub returns : goal.returns
returns t c =
    let tree = c.args.tree.now in
    let ls = tree.leaves in
    let rows = tree.nodes in
    let ps = c.args.parts.now in
    let out = c.args.out.now in
    let k = c.loop-part.part-index in
    let past = c.loop-part-test.false in
    record {
      fields = walk_end (IsFieldOf tree) (fields ls) tree ps out _ k c.loop-part.invariant past;
      inside = all_hold (IsFieldOf tree) (fields ls) tree ps out _ k c.loop-part.invariant past;
    }
