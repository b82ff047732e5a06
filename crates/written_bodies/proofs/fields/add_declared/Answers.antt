use Rattle.std.proofs.Common.{◌∙◌, ◌++◌, sym, ap, append_assoc, length}
use Rattle.rw_base.specs.Trees.{Numbered}
use Rattle.std.proofs.lemmas.List.Elements.{All-append}
use Rattle.rw_base.specs.Laid.{forest_of}
use Rattle.written_bodies.specs.Bodies.{name_in, named_fields, more_fields, IsFieldOf}
use Rattle.rw_base.specs.Arena.{kind_of}
use Rattle.written_bodies.specs.declared.kinds.TheConstants.{FIELD}
use Rattle.written_bodies.proofs.Below.{own_below}
use Rattle.written_bodies.proofs.Own.{each, of_kind, other_kind}
use Rattle.written_bodies.proofs.Gathering.{walk_leaf, walk_node, walk_other, walk_end, all_hold}
use Rattle.written_bodies.proofs.fields.add_declared.Goals as goal
use Rattle.written_bodies.proofs.fields.add_declared.Goals.{in-Leaf}
use Rattle.written_bodies.proofs.fields.add_declared.Goals.{in-Node+then-kind-eq-FIELD+in_ok-add_named-in-Node+in_ok-add_more-in-Node}
use Rattle.written_bodies.proofs.fields.add_declared.Goals.{in-Node+else-kind-eq-FIELD}

pub add_named-requires-clause-brackets : goal.add_named-requires-clause-brackets
add_named-requires-clause-brackets c =
    own_below (length c.args.tree.now.leaves) (length c.args.tree.now.nodes) c.args.parts.now c.parts-own.result.now
    c.loop-part.part-index _ c.in-Node.m c.loop-part-test.true c.in-Node.is c.parts-own.ensures.below
    c.loop-part.invariant.below

pub add_more-requires-clause-parts : goal.add_more-requires-clause-parts
add_more-requires-clause-parts c =
    own_below (length c.args.tree.now.leaves) (length c.args.tree.now.nodes) c.args.parts.now c.parts-own.result.now
    c.loop-part.part-index _ c.in-Node.m c.loop-part-test.true c.in-Node.is c.parts-own.ensures.below
    c.loop-part.invariant.below

pub loop-part-preserved : goal.loop-part-preserved
loop-part-preserved c =
    let tree = c.args.tree.now in
    let ls = tree.leaves in
    let rows = tree.nodes in
    let ps = c.args.parts.now in
    let out = c.args.out.now in
    let k = c.loop-part.part-index in
    let lt = c.loop-part-test.true in
    let inv = c.loop-part.invariant in
    let ty = c.args.ty.0 in
    let kind = kind_of rows ty in
    let names = name_in ls (forest_of rows ps) in
    let f = λ (own : Numbered). named_fields ty kind own names ++ more_fields ls ty kind own in
    elim c.match-part.branch [
      | in-Leaf w ↦ rw w.out-is (walk_leaf (IsFieldOf tree) (each FIELD f) tree ps out _ k inv _ _ lt w.in-Leaf.is)
      | in-Node+then-kind-eq-FIELD+in_ok-add_named-in-Node+in_ok-add_more-in-Node w ↦ rw w.out-is
          (walk_node (IsFieldOf tree) (each FIELD f) tree ps out _ k inv _ w.in-Node.m _ _ lt w.in-Node.is
          (of_kind rows w.in-Node.m.0 _ w.parts-own.ensures.kids FIELD f
          (sym w.kind.ensures ∙ w.if-kind-eq-FIELD.true))
          (w.in_ok-add_more-in-Node.ensures.fields
          ∙ (ap (λ x. x ++ more_fields ls ty kind (forest_of rows w.parts-own.result.now))
          w.in_ok-add_named-in-Node.ensures.fields
          ∙ append_assoc c.loop-part.out _ _))
          (All-append (IsFieldOf tree) _ _ w.in_ok-add_named-in-Node.ensures.inside
          w.in_ok-add_more-in-Node.ensures.inside))
      | in-Node+else-kind-eq-FIELD w ↦ rw w.out-is
          (walk_other (IsFieldOf tree) (each FIELD f) tree ps out _ k inv _ w.in-Node.m lt w.in-Node.is
          (other_kind rows w.in-Node.m.0 FIELD f (λ e. w.if-kind-eq-FIELD.false (w.kind.ensures ∙ e))))
    ]

pub returns : goal.returns
returns c =
    let tree = c.args.tree.now in
    let ls = tree.leaves in
    let rows = tree.nodes in
    let ps = c.args.parts.now in
    let out = c.args.out.now in
    let k = c.loop-part.part-index in
    let past = c.loop-part-test.false in
    let ty = c.args.ty.0 in
    let kind = kind_of rows ty in
    let names = name_in ls (forest_of rows ps) in
    let f = λ (own : Numbered). named_fields ty kind own names ++ more_fields ls ty kind own in
    record {
      fields = walk_end (IsFieldOf tree) (each FIELD f) tree ps out _ k c.loop-part.invariant past;
      inside = all_hold (IsFieldOf tree) (each FIELD f) tree ps out _ k c.loop-part.invariant past;
    }
