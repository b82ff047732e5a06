use Rattle.std.proofs.Common.{ℕ, ◌<◌, ◌∙◌, sym, ap, length, arith}
use Rattle.written_bodies.specs.Bodies.{is_around_name}
use Rattle.written_bodies.proofs.Below.{own_below, nearer}
use Rattle.written_bodies.proofs.Own.{methods, of_method, of_methods, no_method}
use Rattle.written_bodies.proofs.Gathering.{walk_leaf, walk_node, walk_other, walk_end, all_hold}
use Rattle.written_bodies.proofs.members.+add_methods.Goals as goal
use Rattle.written_bodies.proofs.members.+add_methods.Goals.{in-Leaf}
use Rattle.written_bodies.proofs.members.+add_methods.Goals.{in-Node+then-is_around_name+then-has_method+in_ok-add_name-in-Node}
use Rattle.written_bodies.proofs.members.+add_methods.Goals.{in-Node+then-is_around_name+else-has_method+in_ok-add_methods-in-Node}
use Rattle.written_bodies.proofs.members.+add_methods.Goals.{in-Node+else-is_around_name}

pub has_method-requires : goal.has_method-requires
has_method-requires t c =
    own_below (length c.args.tree.now.leaves) (length c.args.tree.now.nodes) c.args.parts.now c.parts-own.result.now
    c.loop-part.part-index _ c.in-Node.m c.loop-part-test.true c.in-Node.is c.parts-own.ensures.below
    c.loop-part.invariant.below

pub add_name-requires : goal.add_name-requires
add_name-requires t c =
    own_below (length c.args.tree.now.leaves) (length c.args.tree.now.nodes) c.args.parts.now c.parts-own.result.now
    c.loop-part.part-index _ c.in-Node.m c.loop-part-test.true c.in-Node.is c.parts-own.ensures.below
    c.loop-part.invariant.below

pub add_methods-requires : goal.add_methods-requires
add_methods-requires t c =
    let leaf_count = length c.args.tree.now.leaves in
    let n = length c.args.tree.now.nodes in
    let ps = c.args.parts.now in
    let own = c.parts-own.result.now in
    let k = c.loop-part.part-index in
    let lt = c.loop-part-test.true in
    let below = c.parts-own.ensures.below in
    let near = nearer leaf_count n ps own k _ c.in-Node.m lt c.in-Node.is below in (
      omega (arith, near),
      own_below leaf_count n ps own k _ c.in-Node.m lt c.in-Node.is below c.loop-part.invariant.below,
    )

pub loop-part-preserved : goal.loop-part-preserved
loop-part-preserved t c =
    let tree = c.args.tree.now in
    let ls = tree.leaves in
    let rows = tree.nodes in
    let ps = c.args.parts.now in
    let out = c.args.out.now in
    let k = c.loop-part.part-index in
    let lt = c.loop-part-test.true in
    let inv = c.loop-part.invariant in
    let inside = λ (i : ℕ). i < length ls in
    elim c.match-part.branch [
      | in-Leaf w ↦ rw w.out-is (walk_leaf inside (methods ls) tree ps out _ k inv _ _ lt w.in-Leaf.is)
      | in-Node+then-is_around_name+then-has_method+in_ok-add_name-in-Node w ↦ rw w.out-is
          (walk_node inside (methods ls) tree ps out _ k inv _ w.in-Node.m _ _ lt w.in-Node.is
          (of_method rows w.in-Node.m.0 _ w.parts-own.ensures.kids ls
          (ap is_around_name (sym w.kind.ensures) ∙ (sym w.is_around_name.ensures ∙ w.if-is_around_name.true))
          (sym w.has_method.ensures ∙ w.if-has_method.true))
          w.in_ok-add_name-in-Node.ensures.name w.in_ok-add_name-in-Node.ensures.inside)
      | in-Node+then-is_around_name+else-has_method+in_ok-add_methods-in-Node w ↦ rw w.out-is
          (walk_node inside (methods ls) tree ps out _ k inv _ w.in-Node.m _ _ lt w.in-Node.is
          (of_methods rows w.in-Node.m.0 _ w.parts-own.ensures.kids ls
          (ap is_around_name (sym w.kind.ensures) ∙ (sym w.is_around_name.ensures ∙ w.if-is_around_name.true))
          (sym w.has_method.ensures ∙ w.if-has_method.false))
          w.in_ok-add_methods-in-Node.ensures.names w.in_ok-add_methods-in-Node.ensures.inside)
      | in-Node+else-is_around_name w ↦ rw w.out-is
          (walk_other inside (methods ls) tree ps out _ k inv _ w.in-Node.m lt w.in-Node.is
          (no_method rows w.in-Node.m.0 ls
          (ap is_around_name (sym w.kind.ensures) ∙ (sym w.is_around_name.ensures ∙ w.if-is_around_name.false))))
    ]

pub returns : goal.returns
returns t c =
    let tree = c.args.tree.now in
    let ls = tree.leaves in
    let rows = tree.nodes in
    let ps = c.args.parts.now in
    let out = c.args.out.now in
    let k = c.loop-part.part-index in
    let past = c.loop-part-test.false in
    let inside = λ (i : ℕ). i < length ls in
    record {
      names = walk_end inside (methods ls) tree ps out _ k c.loop-part.invariant past;
      inside = all_hold inside (methods ls) tree ps out _ k c.loop-part.invariant past;
    }
