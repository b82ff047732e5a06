use Rattle.std.proofs.Common.{◌≡◌, ◌<◌, None, length, get_or, ◌++◌, sym, ap, ◌∙◌, subst, arith}
use Rattle.std.specs.Prelude.{slice_range}
use Rattle.rw_base.specs.Arena.{leaf_at}
use Rattle.rw_base.specs.Chosen.{AreChosen, leaf_spot}
use Rattle.rw_base.specs.NewText.{items_text}
use Rattle.rw_base.specs.declared.tree.Leaf.{Leaf}
use Rattle.rw_base.proofs.NewTextLemmas.{nothing_copied, kept, edited, before_text, all_copied, chosen_some, chosen_none, leaf_some, leaf_none}
use Rattle.rw_base.proofs.leaf_edits.with_leaves_edited.Goals as goal
use Rattle.rw_base.proofs.leaf_edits.with_leaves_edited.Goals.{in-Some+in_ok-push_range+in_ok-push_items, in_default}

pub loop-i-init : goal.loop-i-init
loop-i-init c = nothing_copied c.args.tree.now c.args.bytes.now c.args.edits.now c.in_ok-out.out.items c.in_ok-out.ensures.items

pub overflow_cast-i : goal.overflow_cast-i
overflow_cast-i c = omega (arith, c.in_ok-chosen.ensures.chosen.long, ap length c.deref-edit-items.ensures.value, c.edits_at_leaves.ensures.tree.leaf_count)

pub push_range-requires-clause-order : goal.push_range-requires-clause-order
push_range-requires-clause-order c =
    let lt : c.loop-i.i < length c.args.tree.now.leaves = omega (arith, c.in_ok-chosen.ensures.chosen.long, ap length c.deref-edit-items.ensures.value) in
    let before = before_text c.args.tree.now c.args.bytes.now c.args.edits.now c.loop-i.i c.loop-i.copied c.loop-i.out.items c.edits_at_leaves.ensures.tree.tile lt c.loop-i.invariant in
    omega (arith, before, ap (λ (l : Leaf). l.from) c.leaf-leaf.ensures.leaf)

pub loop-i-preserved : goal.loop-i-preserved
loop-i-preserved c =
    let t = c.args.tree.now in
    let bytes = c.args.bytes.now in
    let edits = c.args.edits.now in
    let i = c.loop-i.i in
    let chosen : AreChosen leaf_spot (length t.leaves) edits c.deref-edit-items.result.now = subst (AreChosen leaf_spot (length t.leaves) edits) (sym c.deref-edit-items.ensures.value) c.in_ok-chosen.ensures.chosen in
    let lt : i < length t.leaves = omega (arith, chosen.long) in
    elim c.match-edit.branch [
      | in-Some+in_ok-push_range+in_ok-push_items w ↦
          let found = chosen_some leaf_spot (length t.leaves) edits c.deref-edit-items.result.now i w.in-Some.k None w.index-edits-k.result chosen lt w.in-Some.is in
          let out = c.loop-i.out.items in
          let copied = c.loop-i.copied in
          let leaf = leaf_at t.leaves i in
          let text = items_text (get_or edits w.in-Some.k w.index-edits-k.result).items in
          let to_is : c.match-edit.copied ≡ leaf.to = w.copied-is ∙ ap (λ (l : Leaf). l.to) w.leaf-leaf.ensures.leaf in
          let gap_is : w.push_range.new.out.items ≡ out ++ slice_range bytes copied leaf.from = w.in_ok-push_range.ensures ∙ ap (λ (l : Leaf). out ++ slice_range bytes copied l.from) w.leaf-leaf.ensures.leaf in
          let text_is : items_text w.as_slice.result.now ≡ text = ap items_text w.as_slice.ensures in
          let out_is : c.match-edit.out.items ≡ (out ++ slice_range bytes copied leaf.from) ++ text =
          ap (λ v. v.items) w.out-is ∙ (w.in_ok-push_items.ensures ∙ (ap (λ o. o ++ items_text w.as_slice.result.now) gap_is ∙ ap (λ x. (out ++ slice_range bytes copied leaf.from) ++ x) text_is)) in
          rw (out_is, to_is) (edited t bytes edits i copied out c.edits_at_leaves.ensures.tree.tile lt c.loop-i.invariant text (leaf_some edits i (get_or edits w.in-Some.k w.index-edits-k.result).items found.1))
      | in_default w ↦
          let none = chosen_none leaf_spot (length t.leaves) edits c.deref-edit-items.result.now i None chosen lt w.in_default.is in
          rw (w.out-is, w.copied-is) (kept t bytes edits i c.loop-i.copied c.loop-i.out.items c.edits_at_leaves.ensures.tree.tile lt c.loop-i.invariant (leaf_none edits i none))
    ]

pub returns-clause-text : goal.returns-clause-text
returns-clause-text c = c.in_ok-push_range-2.ensures ∙ (all_copied c.args.tree.now c.args.bytes.now c.args.edits.now c.loop-i.i c.loop-i.copied c.loop-i.out.items (omega (arith, c.in_ok-chosen.ensures.chosen.long, ap length c.deref-edit-items.ensures.value)) c.requires.bytes c.loop-i.invariant).1
