use Rattle.std.proofs.Common.{◌+◌, ◌++◌, ◌∙◌, [], ◌∷◌, sym, ap, refl, length, arith}
use Rattle.rw_base.specs.Arena.{first_of, past_of, kind_of}
use Rattle.java_reader.specs.declared.unit.UnitKind.TheVariants as kind
use Rattle.rw_base.specs.WalkLaws.{kids_end}
use Rattle.rw_base.specs.Laid.{kids_of}
use Rattle.rw_grammar.specs.Results.{class_in}
use Rattle.java_reader.specs.Units.{unit, role_of}
use Rattle.java_reader.proofs.UnitSteps.{walking_start, walking_leaf, walking_node, walking_end, walking_few}
use Rattle.java_reader.proofs.UnitSteps.{walking_below, unit_of_modified, unit_of_stands}
use Rattle.java_reader.proofs.unit.+units.Goals as goal
use Rattle.java_reader.proofs.unit.+units.Goals.{add_units-in-Leaf, add_units-in-Node+in_ok-add_node-in-Node}

pub add_units-loop-part-init : goal.add_units-loop-part-init
add_units-loop-part-init t c =
    walking_start c.args.tree.now c.root.ensures.tree c.args.n.0 (past_of c.args.tree.now.nodes c.args.n.0) c.args.owner
    c.args.outer c.parts-parts.result.now _ c.args.out.now.items c.requires.node
    (first_of c.args.tree.now.nodes c.args.n.0) c.parts-parts.ensures.parts refl refl c.parts-parts.ensures.kids
    c.requires.few refl

pub add_units-add_node-requires : goal.add_units-add_node-requires
add_units-add_node-requires t c =
    let past = past_of c.args.tree.now.nodes c.args.n.0 in
    let below = walking_below c.args.tree.now c.root.ensures.tree c.args.n.0 past c.args.owner c.args.outer
    c.parts-parts.result.now _ c.loop-part.out.items c.loop-part.part-index _ c.in-Node.m c.loop-part-test.true
    c.in-Node.is c.loop-part.invariant in
    let few = walking_few c.args.tree.now c.root.ensures.tree c.args.n.0 past c.args.owner c.args.outer
    c.parts-parts.result.now _ c.loop-part.out.items c.loop-part.part-index _ c.in-Node.m c.loop-part-test.true
    c.in-Node.is c.loop-part.invariant in
    (omega arith, (c.requires.node, (below, few)))

pub add_units-loop-part-preserved : goal.add_units-loop-part-preserved
add_units-loop-part-preserved t c =
    let past = past_of c.args.tree.now.nodes c.args.n.0 in
    elim c.match-part.branch [
      | add_units-in-Leaf w ↦
          rw w.out-is
          (walking_leaf c.args.tree.now c.root.ensures.tree c.args.n.0 past c.args.owner c.args.outer
          c.parts-parts.result.now _ c.loop-part.out.items c.loop-part.part-index _ w.in-Leaf.field-0
          c.loop-part-test.true w.in-Leaf.is c.loop-part.invariant)
      | add_units-in-Node+in_ok-add_node-in-Node w ↦
          rw w.out-is
          (walking_node c.args.tree.now c.root.ensures.tree c.args.n.0 past c.args.owner c.args.outer
          c.parts-parts.result.now _ c.loop-part.out.items c.loop-part.part-index _ w.in-Node.m _ c.requires.node
          c.loop-part-test.true w.in-Node.is w.in_ok-add_node-in-Node.ensures c.loop-part.invariant)
    ]

pub add_units-returns : goal.add_units-returns
add_units-returns t c =
    walking_end c.args.tree.now c.root.ensures.tree c.args.n.0 (past_of c.args.tree.now.nodes c.args.n.0) c.args.owner
    c.args.outer c.parts-parts.result.now _ c.loop-part.out.items c.loop-part.part-index c.loop-part-test.false
    c.loop-part.invariant

pub add_node-returns-in_ok-push-in-Modified : goal.add_node-returns-in_ok-push-in-Modified
add_node-returns-in_ok-push-in-Modified t c =
    c.in_ok-push-in-Modified.ensures.items
    ∙ ap (λ us. c.args.out.now.items ++ us)
    (ap (λ a. unit kind.Member a c.leaves_of-first.result.1 c.args.owner ∷ []) c.leaves_of-first.ensures.first
    ∙ unit_of_modified (class_in c.args.tree.now.leaves) (length c.args.out.now.items) c.args.owner c.args.outer (first_of c.args.tree.now.nodes c.args.m.0) c.leaves_of-first.result.1 (role_of (kind_of c.args.tree.now.nodes c.args.m.0)) (kids_of c.args.tree.now.nodes c.args.m.0)
    (ap role_of (sym c.kind.ensures) ∙ (sym c.role_of.ensures ∙ c.in-Modified.is)) (sym c.declares.ensures ∙ c.if-declares.false) (sym c.has_node.ensures ∙ c.if-has_node.true)
    (kids_end c.args.tree.now c.leaves_of-first.ensures.tree c.args.m.0 (omega (arith, c.requires.part, c.requires.node)) ∙ sym c.leaves_of-first.ensures.past))

pub add_node-returns-in_ok-push-in-Stands : goal.add_node-returns-in_ok-push-in-Stands
add_node-returns-in_ok-push-in-Stands t c =
    c.in_ok-push-in-Stands.ensures.items
    ∙ ap (λ us. c.args.out.now.items ++ us)
    (ap (λ a. unit kind.Member a c.leaves_of-first.result.1 c.args.owner ∷ []) c.leaves_of-first.ensures.first
    ∙ unit_of_stands (class_in c.args.tree.now.leaves) (length c.args.out.now.items) c.args.owner c.args.outer (first_of c.args.tree.now.nodes c.args.m.0) c.leaves_of-first.result.1 (role_of (kind_of c.args.tree.now.nodes c.args.m.0)) (kids_of c.args.tree.now.nodes c.args.m.0)
    (ap role_of (sym c.kind.ensures) ∙ (sym c.role_of.ensures ∙ c.in-Stands.is))
    (kids_end c.args.tree.now c.leaves_of-first.ensures.tree c.args.m.0 (omega (arith, c.requires.part, c.requires.node)) ∙ sym c.leaves_of-first.ensures.past))
