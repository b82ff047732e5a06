use Rattle.std.proofs.Common.{◌≡◌, ◌++◌, drop}
use Rattle.rw_base.specs.NewText.{items_text}
use Rattle.rw_base.proofs.leaf_edits.push_items.Given as goal

abbrev pub invariant-loop-item : goal.invariant-loop-item
invariant-loop-item l = l.fn.out.items ++ items_text l.fn.items ≡ l.out.items ++ items_text (drop l.item-index l.items)
