use Rattle.std.specs.Prelude.{All, take}
use Rattle.rw_base.specs.NewText.{IsItemOf}
use Rattle.examples_texts.proofs.edits.are_items_of.Given as goal

abbrev pub invariant-loop-item : goal.invariant-loop-item
invariant-loop-item l = All (IsItemOf l.tree l.spot) (take l.item-index l.items)
