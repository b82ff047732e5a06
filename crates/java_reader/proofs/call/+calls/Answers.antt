use Rattle.std.proofs.Common.{◌+◌, ◌++◌, ◌∙◌, ap, inl, inr, arith}
use Rattle.rw_base.specs.declared.tree.Part.TheVariants as part
use Rattle.rw_base.specs.Arena.{kind_of}
use Rattle.rw_base.specs.Laid.{kids_of}
use Rattle.rw_grammar.specs.Results.{class_in}
use Rattle.java_reader.specs.Calls.{calls_in, own_call, within}
use Rattle.java_reader.proofs.CallSteps.{calls_both, node_out}
use Rattle.java_reader.proofs.SkipSteps.{part_in, node_below, none_left, leaf_passed, node_passed, all_passed}
use Rattle.java_reader.proofs.call.+calls.Goals as goal
use Rattle.java_reader.proofs.call.+calls.Goals.{add_calls-in-Leaf, add_calls-in-Node+in_ok-add_node-in-Node}

pub add_calls-first_leaf-requires : goal.add_calls-first_leaf-requires
add_calls-first_leaf-requires t c =
    part_in c.args.tree.now c.args.n.0 c.requires c.parts-parts.result.now c.loop-p.p (part.Leaf 0) c.parts-parts.ensures.below
    c.loop-p-test.true

pub add_calls-returns-then-past-first_leaf : goal.add_calls-returns-then-past-first_leaf
add_calls-returns-then-past-first_leaf t c =
    none_left c.args.tree.now c.args.n.0 c.args.first c.parts-parts.result.now c.loop-p.p (part.Leaf 0) c.parts-parts.ensures.parts
    c.root.ensures.tree c.requires c.loop-p-test.true c.args.past c.loop-p.out.items _
    (omega (arith, c.first_leaf.ensures, c.if-past-first_leaf.true)) c.loop-p.invariant

pub add_calls-add_node-requires : goal.add_calls-add_node-requires
add_calls-add_node-requires t c =
    let below = node_below _ c.args.n.0 c.parts-parts.result.now c.loop-p.p (part.Leaf 0) c.in-Node.m c.parts-parts.ensures.below
    c.loop-p-test.true c.in-Node.is in
    (omega (arith, below), (c.requires, below))

pub add_calls-loop-p-preserved : goal.add_calls-loop-p-preserved
add_calls-loop-p-preserved t c =
    let tr = c.args.tree.now in
    let ps = c.parts-parts.result.now in
    let k = c.loop-p.p in
    elim c.match-parts-p.branch [
      | add_calls-in-Leaf w ↦
          rw w.out-is
          (leaf_passed tr c.args.n.0 c.args.first ps k (part.Leaf 0) c.parts-parts.ensures.parts c.args.past _ c.loop-p.out.items
          c.loop-p.invariant _ c.loop-p-test.true w.in-Leaf.is)
      | add_calls-in-Node+in_ok-add_node-in-Node w ↦
          rw w.out-is
          (node_passed tr c.args.n.0 c.args.first ps k (part.Leaf 0) c.parts-parts.ensures.parts c.args.past _ c.loop-p.out.items
          c.loop-p.invariant _ _ c.loop-p-test.true w.in-Node.is w.in_ok-add_node-in-Node.ensures)
    ]

pub add_calls-returns : goal.add_calls-returns
add_calls-returns t c =
    all_passed c.args.tree.now c.args.n.0 c.args.first c.parts-parts.result.now c.loop-p.p (part.Leaf 0)
    c.parts-parts.ensures.parts c.args.past _ c.loop-p.out.items c.loop-p.invariant (omega (arith, c.loop-p-test.false))

pub add_node-returns-then-end-first : goal.add_node-returns-then-end-first
add_node-returns-then-end-first t c =
    node_out (class_in c.args.tree.now.leaves) c.args.first c.args.past c.args.tree.now c.leaves_of-begin.ensures.tree c.args.n.0 c.args.p c.args.m.0 (omega (arith, c.requires.part, c.requires.node))
    (inl (omega (arith, c.if-end-first.true, c.leaves_of-begin.ensures.past))) c.args.out.now.items

pub add_node-returns-then-past-begin : goal.add_node-returns-then-past-begin
add_node-returns-then-past-begin t c =
    node_out (class_in c.args.tree.now.leaves) c.args.first c.args.past c.args.tree.now c.leaves_of-begin.ensures.tree c.args.n.0 c.args.p c.args.m.0 (omega (arith, c.requires.part, c.requires.node))
    (inr (omega (arith, c.if-past-begin.true, c.leaves_of-begin.ensures.first))) c.args.out.now.items

pub add_node-returns : goal.add_node-returns
add_node-returns t c =
    let own = own_call (class_in c.args.tree.now.leaves) c.args.n.0 c.args.p c.args.m.0 (kind_of c.args.tree.now.nodes c.args.m.0) (kids_of c.args.tree.now.nodes c.args.m.0) in
    calls_both c.args.first c.args.past c.args.out.now.items c.append_within.new.out.items c.add_calls.new.out.items own (calls_in (class_in c.args.tree.now.leaves) c.args.m.0 0 (kids_of c.args.tree.now.nodes c.args.m.0))
    (c.in_ok-append_within.ensures ∙ ap (λ vs. c.args.out.now.items ++ within c.args.first c.args.past vs) c.own_call.ensures) c.in_ok-add_calls.ensures
