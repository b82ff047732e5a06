use Rattle.std.proofs.Common.{◌<◌, ◌+◌, length, sym, ap, subst, arith}
use Rattle.rw_base.specs.Chosen.{leaf_spot}
use Rattle.rw_base.specs.NewText.{IsSpot}
use Rattle.rw_base.proofs.Choosing.{IsChoosing, spot_inside, chosen_here, chosen_past, all_chosen, leaves_apart}
use Rattle.rw_base.proofs.chosen.edits_at_leaves.Goals as goal
use Rattle.rw_base.proofs.chosen.edits_at_leaves.Goals.{in-Leaf, in_default}

pub index_mut-requires : goal.index_mut-requires
index_mut-requires c =
    let t = c.args.tree.now in
    let inside = spot_inside t leaf_spot (length t.leaves) c.args.edits.now c.loop-k.k c.loop-k.chosen.items c.index-edits-k.result c.loop-k-test.true c.index-edits-k.is c.loop-k.invariant in
    let lt : c.in-Leaf.i < length t.leaves = subst (IsSpot t) c.in-Leaf.is inside in
    omega (arith, lt, c.loop-k.invariant.long)

pub loop-k-preserved : goal.loop-k-preserved
loop-k-preserved c =
    let t = c.args.tree.now in
    let count = length t.leaves in
    let edits = c.args.edits.now in
    let k = c.loop-k.k in
    let chosen = c.loop-k.chosen.items in
    let edit = c.index-edits-k.result in
    elim c.match-edit.branch [
      | in-Leaf w ↦
          let inside = spot_inside t leaf_spot count edits k chosen edit c.loop-k-test.true c.index-edits-k.is c.loop-k.invariant in
          subst (λ items. IsChoosing t leaf_spot count edits (k + 1) items) (sym (ap (λ v. v.items) w.chosen-is))
          (chosen_here t leaf_spot count edits k chosen edit c.loop-k-test.true c.index-edits-k.is c.loop-k.invariant w.in-Leaf.i w.in-Leaf.is leaves_apart (subst (IsSpot t) w.in-Leaf.is inside))
      | in_default w ↦
          subst (λ items. IsChoosing t leaf_spot count edits (k + 1) items) (sym (ap (λ v. v.items) w.chosen-is))
          (chosen_past t leaf_spot count edits k chosen edit c.loop-k-test.true c.index-edits-k.is c.loop-k.invariant w.in_default.not-Leaf)
    ]

pub returns-clause-chosen : goal.returns-clause-chosen
returns-clause-chosen c = all_chosen c.args.tree.now leaf_spot (length c.args.tree.now.leaves) c.args.edits.now c.loop-k.k c.loop-k.chosen.items c.loop-k-test.false c.loop-k.invariant
