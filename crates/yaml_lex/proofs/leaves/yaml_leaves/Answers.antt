use Rattle.std.proofs.Common.{refl, ap, reverse, ◌∙◌, ◌-◌, arith, take, drop, length}
use Rattle.yaml_lex.specs.Contexts.{past_leaf}
use Rattle.std.proofs.lemmas.List.{take_rest}
use Rattle.yaml_lex.proofs.Cutting.{at-first, start-column, start-depth, past-passed, past-leaf, at-bad, at-end, end-is, rest-column}
use Rattle.yaml_lex.proofs.Tiling.{tiles}
use Rattle.yaml_lex.proofs.leaves.yaml_leaves.Goals as goal

pub pieces-init : goal.pieces-init
pieces-init c = record {
  so_far = at-first c.args.bytes.now c.utf8_front-text.result.now _ _ c.mark_size-at.result c.start-context.result _ c.utf8_front-text.ensures refl c.in_ok-leaves.ensures.items c.mark_size-at.ensures
      c.start-context.ensures c.new-collections.ensures.items;
  column = start-column c.start-context.result c.mark_size-at.result c.start-context.ensures;
  depth = start-depth c.start-context.result c.mark_size-at.result c.start-context.ensures;
}

pub pieces-preserved-in-Passed : goal.pieces-preserved-in-Passed
pieces-preserved-in-Passed c = record {
  so_far = past-passed c.args.bytes.now c.utf8_front-text.result.now _ _ _ _ c.pieces.at c.in-Passed.size c.pieces.context c.past-context.result _ c.pieces.invariant.so_far
      (take_rest c.utf8_front-text.result.now c.pieces.at) c.in-Passed.ensures.0 c.in-Passed.ensures.2 c.past-context.ensures.next;
  column = rest-column c.utf8_front-text.result.now _ c.pieces.at c.in-Passed.size c.past-context.result.column c.pieces.context.column c.in-Passed.ensures.2 c.past-context.ensures.column c.pieces.invariant.column;
  depth = omega (arith, c.past-context.ensures.depth, c.pieces.invariant.depth);
}

pub pieces-preserved : goal.pieces-preserved
pieces-preserved c = record {
  so_far = past-leaf c.args.bytes.now c.utf8_front-text.result.now _ _ c.pieces.leaves.items c.push_textless.new.leaves.items _ c.pieces.from c.pieces.at c.in-Leaf.class c.in-Leaf.size c.leaf_at.result
      c.pieces.context c.past_leaf-context.result _ _ _ c.pieces.invariant.so_far
      (take_rest c.utf8_front-text.result.now c.pieces.at) (ap reverse c.as_slice.ensures.value) c.in-Leaf.ensures.0 c.in-Leaf.ensures.1 c.in-Leaf.ensures.3
      c.in_ok-push_textless-in-Leaf.ensures.leaves c.leaf_at.ensures c.in_ok-push-in-Leaf.ensures.items
      (c.past_leaf-context.ensures.next ∙ ap (past_leaf c.in-Leaf.class _) c.past.ensures.next) c.in_ok-push_textless-in-Leaf.ensures.collections;
  column = rest-column c.utf8_front-text.result.now (take (length c.utf8_front-text.result.now - c.pieces.at) (drop c.pieces.at c.utf8_front-text.result.now)) c.pieces.at c.in-Leaf.size c.past_leaf-context.result.column c.pieces.context.column c.in-Leaf.ensures.3
      (omega (arith, c.past_leaf-context.ensures.column, c.past.ensures.column)) c.pieces.invariant.column;
  depth = omega (arith, c.past_leaf-context.ensures.depth, c.past.ensures.depth, c.pieces.invariant.depth, c.in-Leaf.ensures.2);
}

pub returns-in-Bad-clause-leaves : goal.returns-in-Bad-clause-leaves
returns-in-Bad-clause-leaves c =
    at-bad c.args.bytes.now c.utf8_front-text.result.now _ _ c.pieces.leaves.items _ c.pieces.from c.pieces.at c.in-Bad.size c.in-Bad.cause c.leaf_at-in-Bad.result c.pieces.context _ _
    c.pieces.invariant.so_far (take_rest c.utf8_front-text.result.now c.pieces.at) (ap reverse c.as_slice.ensures.value) c.in-Bad.ensures.0
    (end-is _ _ _ c.leaf_at-in-Bad.ensures) c.in_ok-push-in-Bad.ensures.items

pub returns-in-End-clause-leaves : goal.returns-in-End-clause-leaves
returns-in-End-clause-leaves c =
    at-end c.args.bytes.now c.utf8_front-text.result.now _ _ c.pieces.leaves.items c.push_closes.new.leaves.items _ c.pieces.from c.pieces.at c.len.result c.leaf_at-in-End.result c.pieces.context c.pieces.collections.items
    c.pieces.invariant.so_far (take_rest c.utf8_front-text.result.now c.pieces.at) c.in-End.ensures.0 c.in-End.ensures.1
    (omega (arith, c.len.ensures, c.pieces.collections.ok.0)) c.in_ok-push_closes-in-End.ensures (end-is c.pieces.from c.pieces.at c.leaf_at-in-End.result c.leaf_at-in-End.ensures) c.in_ok-push-in-End.ensures.items

pub returns-in-Bad-clause-tiles : goal.returns-in-Bad-clause-tiles
returns-in-Bad-clause-tiles c = tiles c.args.bytes.now _ _ (returns-in-Bad-clause-leaves c)

pub returns-in-End-clause-tiles : goal.returns-in-End-clause-tiles
returns-in-End-clause-tiles c = tiles c.args.bytes.now _ _ (returns-in-End-clause-leaves c)
