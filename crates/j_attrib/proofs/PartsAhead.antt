-- The parts of a node from one on.
use Rattle.std.proofs.Common.{◌≡◌, ℕ, zero, suc, ◌<◌, List, [], ◌∷◌, length, get_or, drop}
use Rattle.rw_base.specs.declared.tree.NodeId.{NodeId}
use Rattle.rw_base.specs.declared.tree.Part.{Part}
use Rattle.rw_base.specs.declared.tree.Part.TheVariants as part
use Rattle.rw_base.specs.Arena.{AreBelow}
use Rattle.rw_base.specs.PartLaws.{node_below}

below_from : (leaf_count n : ℕ) (ps : List Part) (k : ℕ) → AreBelow leaf_count n ps → AreBelow leaf_count n (drop k ps)
below_from leaf_count n ps zero b = b
below_from leaf_count n [] (suc k) b = b
below_from leaf_count n (part.Leaf i ∷ ps) (suc k) b = below_from leaf_count n ps k b.1
below_from leaf_count n (part.Node m ∷ ps) (suc k) b = below_from leaf_count n ps k b.1

pub node_in : (leaf_count n : ℕ) (ps : List Part) (k : ℕ) (d : Part) (m : NodeId) → AreBelow leaf_count n ps
    → k < length ps → get_or ps k d ≡ part.Node m → m.0 < n
node_in leaf_count n ps k d m b h e = node_below leaf_count n ps k d m (below_from leaf_count n ps k b) h e
