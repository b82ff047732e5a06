use Rattle.std.proofs.Common.{◌<◌, ◌+◌, length, sym, ap, subst, arith}
use Rattle.rw_base.specs.Chosen.{node_spot}
use Rattle.rw_base.specs.NewText.{IsSpot}
use Rattle.rw_base.proofs.Choosing.{IsChoosing, spot_inside, chosen_here, chosen_past, all_chosen, nodes_apart}
use Rattle.rw_base.proofs.chosen.edits_at_nodes.Goals as goal
use Rattle.rw_base.proofs.chosen.edits_at_nodes.Goals.{in-Node, in_default}

pub index_mut-requires : goal.index_mut-requires
index_mut-requires c =
    let t = c.args.tree.now in
    let inside = spot_inside t node_spot (length t.nodes) c.args.edits.now c.loop-k.k c.loop-k.chosen.items c.index-edits-k.result c.loop-k-test.true c.index-edits-k.is c.loop-k.invariant in
    let lt : c.in-Node.n.0 < length t.nodes = subst (IsSpot t) c.in-Node.is inside in
    omega (arith, lt, c.loop-k.invariant.long)

pub loop-k-preserved : goal.loop-k-preserved
loop-k-preserved c =
    let t = c.args.tree.now in
    let count = length t.nodes in
    let edits = c.args.edits.now in
    let k = c.loop-k.k in
    let chosen = c.loop-k.chosen.items in
    let edit = c.index-edits-k.result in
    elim c.match-edit.branch [
      | in-Node w ↦
          let inside = spot_inside t node_spot count edits k chosen edit c.loop-k-test.true c.index-edits-k.is c.loop-k.invariant in
          subst (λ items. IsChoosing t node_spot count edits (k + 1) items) (sym (ap (λ v. v.items) w.chosen-is))
          (chosen_here t node_spot count edits k chosen edit c.loop-k-test.true c.index-edits-k.is c.loop-k.invariant w.in-Node.n.0 w.in-Node.is nodes_apart (subst (IsSpot t) w.in-Node.is inside))
      | in_default w ↦
          subst (λ items. IsChoosing t node_spot count edits (k + 1) items) (sym (ap (λ v. v.items) w.chosen-is))
          (chosen_past t node_spot count edits k chosen edit c.loop-k-test.true c.index-edits-k.is c.loop-k.invariant (λ i. w.in_default.not-Node (record { 0 = i })))
    ]

pub returns : goal.returns
returns c = all_chosen c.args.tree.now node_spot (length c.args.tree.now.nodes) c.args.edits.now c.loop-k.k c.loop-k.chosen.items c.loop-k-test.false c.loop-k.invariant
