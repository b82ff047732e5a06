use Rattle.rw_base.proofs.NewTextLemmas.{IsCopied}
use Rattle.rw_base.proofs.leaf_edits.with_leaves_edited.Given as goal

abbrev pub invariant-loop-i : goal.invariant-loop-i
invariant-loop-i l = IsCopied l.tree l.bytes l.edits l.i l.copied l.out.items
