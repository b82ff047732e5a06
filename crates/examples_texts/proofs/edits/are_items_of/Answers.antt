use Rattle.std.proofs.Common.{IsTrue, length, subst}
use Rattle.std.specs.Prelude.{All}
use Rattle.std.proofs.lemmas.List.{take_all}
use Rattle.std.proofs.lemmas.List.Elements.{All-more}
use Rattle.rw_base.specs.NewText.{IsItemOf}
use Rattle.examples_texts.proofs.edits.are_items_of.Goals as goal

pub loop-item-preserved : goal.loop-item-preserved
loop-item-preserved c =
    let P = IsItemOf c.args.tree.now c.args.spot in
    All-more P c.args.items.now c.loop-item.item-index c.item-item.result c.loop-item-test.true c.loop-item.invariant
    (subst P c.item-item.is (c.is_item_of.ensures c.if-not-is_item_of.false))

pub returns : goal.returns
returns c = λ _.
    subst (All (IsItemOf c.args.tree.now c.args.spot)) (take_all c.loop-item.item-index c.args.items.now c.loop-item-test.false) c.loop-item.invariant
