use Rattle.std.proofs.Common.{refl}
use Rattle.java_lex.proofs.Tiling.{tiles}
use Rattle.java_lex.proofs.Cutting.{at-start, past-white, past-comment, past-leaf, end-is, at-bad, at-end}
use Rattle.java_lex.proofs.leaves.java_leaves.Goals as goal

pub pieces-init : goal.pieces-init
pieces-init c =
    at-start c.args.bytes.now c.utf8_front-text.result.now _ _ _ c.utf8_front-text.ensures refl c.in_ok-leaves.ensures.items c.mark_size-at.ensures

pub pieces-preserved-in-Comment : goal.pieces-preserved-in-Comment
pieces-preserved-in-Comment c =
    past-comment c.args.bytes.now c.utf8_front-text.result.now _ _ _ _ _
    (past-white c.args.bytes.now c.utf8_front-text.result.now _ _ _ c.pieces.at _ c.pieces.invariant c.white_size-at.ensures) c.in-Comment.ensures

pub pieces-preserved : goal.pieces-preserved
pieces-preserved c =
    past-leaf c.args.bytes.now c.utf8_front-text.result.now _ c.pieces.leaves.items _ c.pieces.from _ c.in-Leaf.class c.in-Leaf.size c.leaf_at.result
    (past-white c.args.bytes.now c.utf8_front-text.result.now _ _ _ c.pieces.at _ c.pieces.invariant c.white_size-at.ensures) c.in-Leaf.ensures
    c.leaf_at.ensures c.in_ok-push-in-Leaf.ensures.items

pub returns-in-Bad-clause-leaves : goal.returns-in-Bad-clause-leaves
returns-in-Bad-clause-leaves c =
    at-bad c.args.bytes.now c.utf8_front-text.result.now _ c.pieces.leaves.items _ c.pieces.from _ c.in-Bad.size c.in-Bad.cause c.leaf_at-in-Bad.result
    (past-white c.args.bytes.now c.utf8_front-text.result.now _ _ _ c.pieces.at _ c.pieces.invariant c.white_size-at.ensures) c.in-Bad.ensures
    (end-is _ _ _ c.leaf_at-in-Bad.ensures) c.in_ok-push-in-Bad.ensures.items

pub returns-in-End-clause-leaves : goal.returns-in-End-clause-leaves
returns-in-End-clause-leaves c =
    at-end c.args.bytes.now c.utf8_front-text.result.now _ c.pieces.leaves.items _ c.pieces.from _ c.leaf_at-in-End.result
    (past-white c.args.bytes.now c.utf8_front-text.result.now _ _ _ c.pieces.at _ c.pieces.invariant c.white_size-at.ensures) c.in-End.ensures
    (end-is _ _ _ c.leaf_at-in-End.ensures) c.in_ok-push-in-End.ensures.items

pub returns-in-Bad-clause-tiles : goal.returns-in-Bad-clause-tiles
returns-in-Bad-clause-tiles c = tiles c.args.bytes.now _ _ (returns-in-Bad-clause-leaves c)

pub returns-in-End-clause-tiles : goal.returns-in-End-clause-tiles
returns-in-End-clause-tiles c = tiles c.args.bytes.now _ _ (returns-in-End-clause-leaves c)
