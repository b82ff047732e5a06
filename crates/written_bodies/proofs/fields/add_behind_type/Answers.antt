use Rattle.std.proofs.Common.{◌∙◌, sym, length}
use Rattle.rw_base.specs.Trees.{Numbered}
use Rattle.written_bodies.specs.Bodies.{name_in, declared_fields, IsFieldOf}
use Rattle.rw_base.specs.Arena.{kind_of}
use Rattle.written_bodies.specs.declared.kinds.TheConstants.{AFTER_TYPE}
use Rattle.written_bodies.proofs.Below.{own_below}
use Rattle.written_bodies.proofs.Own.{each, of_kind, other_kind}
use Rattle.written_bodies.proofs.Gathering.{walk_leaf, walk_node, walk_other, walk_end, all_hold}
use Rattle.written_bodies.proofs.fields.add_behind_type.Goals as goal
use Rattle.written_bodies.proofs.fields.add_behind_type.Goals.{in-Leaf}
use Rattle.written_bodies.proofs.fields.add_behind_type.Goals.{in-Node+then-kind-eq-AFTER_TYPE+in_ok-add_declared-in-Node}
use Rattle.written_bodies.proofs.fields.add_behind_type.Goals.{in-Node+else-kind-eq-AFTER_TYPE}

pub add_declared-requires-clause-parts : goal.add_declared-requires-clause-parts
add_declared-requires-clause-parts c =
    own_below (length c.args.tree.now.leaves) (length c.args.tree.now.nodes) c.args.parts.now c.parts.result.now
    c.loop-part.part-index _ c.in-Node.m c.loop-part-test.true c.in-Node.is c.parts.ensures.below
    c.loop-part.invariant.below

pub loop-part-preserved : goal.loop-part-preserved
loop-part-preserved c =
    let tree = c.args.tree.now in
    let ls = tree.leaves in
    let rows = tree.nodes in
    let ps = c.args.parts.now in
    let out = c.args.out.now in
    let k = c.loop-part.part-index in
    let lt = c.loop-part-test.true in
    let inv = c.loop-part.invariant in
    let ty = c.args.ty.0 in
    let kind = kind_of rows ty in
    let f = λ (own : Numbered). declared_fields ls ty kind (name_in ls own) own in
    elim c.match-part.branch [
      | in-Leaf w ↦ rw w.out-is (walk_leaf (IsFieldOf tree) (each AFTER_TYPE f) tree ps out _ k inv _ _ lt w.in-Leaf.is)
      | in-Node+then-kind-eq-AFTER_TYPE+in_ok-add_declared-in-Node w ↦ rw w.out-is
          (walk_node (IsFieldOf tree) (each AFTER_TYPE f) tree ps out _ k inv _ w.in-Node.m _ _ lt w.in-Node.is
          (of_kind rows w.in-Node.m.0 _ w.parts.ensures.kids AFTER_TYPE f
          (sym w.kind.ensures ∙ w.if-kind-eq-AFTER_TYPE.true))
          w.in_ok-add_declared-in-Node.ensures.fields w.in_ok-add_declared-in-Node.ensures.inside)
      | in-Node+else-kind-eq-AFTER_TYPE w ↦ rw w.out-is
          (walk_other (IsFieldOf tree) (each AFTER_TYPE f) tree ps out _ k inv _ w.in-Node.m lt w.in-Node.is
          (other_kind rows w.in-Node.m.0 AFTER_TYPE f (λ e. w.if-kind-eq-AFTER_TYPE.false (w.kind.ensures ∙ e))))
    ]

pub returns : goal.returns
returns c =
    let tree = c.args.tree.now in
    let ls = tree.leaves in
    let rows = tree.nodes in
    let ps = c.args.parts.now in
    let out = c.args.out.now in
    let k = c.loop-part.part-index in
    let past = c.loop-part-test.false in
    let ty = c.args.ty.0 in
    let kind = kind_of rows ty in
    let f = λ (own : Numbered). declared_fields ls ty kind (name_in ls own) own in
    record {
      fields = walk_end (IsFieldOf tree) (each AFTER_TYPE f) tree ps out _ k c.loop-part.invariant past;
      inside = all_hold (IsFieldOf tree) (each AFTER_TYPE f) tree ps out _ k c.loop-part.invariant past;
    }
