-- The nodes among some parts lie below a number.
use Rattle.std.proofs.Common.{ℕ, zero, suc, ◌≡◌, ◌+◌, ◌<◌, ◌≤◌, List, [], ◌∷◌, length, get_or, drop, max, arith}
use Rattle.rw_base.specs.declared.tree.NodeId.{NodeId}
use Rattle.rw_base.specs.declared.tree.Part.{Part}
use Rattle.rw_base.specs.declared.tree.Part.TheVariants as part
use Rattle.rw_base.specs.Arena.{AreBelow}
use Rattle.rw_base.specs.PartLaws.{node_below}

-- what lies below a number lies below a greater one
pub wider : (leaf_count n m : ℕ) (ps : List Part) → n ≤ m → AreBelow leaf_count n ps → AreBelow leaf_count m ps
wider leaf_count n m [] le b = b
wider leaf_count n m (part.Leaf i ∷ ps) le b = (b.0, wider leaf_count n m ps le b.1)
wider leaf_count n m (part.Node k ∷ ps) le b = (omega (arith, le, b.0), wider leaf_count n m ps le b.1)

-- the least number below which the nodes lie: what a walk over parts counts down
abbrev pub past_of : List Part → ℕ
past_of [] = 0
past_of (part.Leaf i ∷ ps) = past_of ps
past_of (part.Node m ∷ ps) = max (m.0 + 1) (past_of ps)

pub past_of-least : (leaf_count n : ℕ) (ps : List Part) → AreBelow leaf_count n ps → past_of ps ≤ n
past_of-least leaf_count n [] b = omega arith
past_of-least leaf_count n (part.Leaf i ∷ ps) b = past_of-least leaf_count n ps b.1
past_of-least leaf_count n (part.Node m ∷ ps) b = omega (arith, past_of-least leaf_count n ps b.1, b.0)

pub past_of-node : (ps : List Part) (k : ℕ) (d : Part) (m : NodeId) → k < length ps → get_or ps k d ≡ part.Node m
    → m.0 < past_of ps
past_of-node [] k d m lt e = absurd (omega arith)
past_of-node (part.Leaf i ∷ ps) zero d m lt e = cc
past_of-node (part.Node n ∷ ps) zero d m lt e = let same : n ≡ m = cc in rw same (omega arith)
past_of-node (part.Leaf i ∷ ps) (suc k) d m lt e = past_of-node ps k d m (omega arith) e
past_of-node (part.Node n ∷ ps) (suc k) d m lt e = omega (arith, past_of-node ps k d m (omega arith) e)

module _ (leaf_count n : ℕ) (ps own : List Part) (k : ℕ) (d : Part) (m : NodeId) (lt : k < length ps)
    (is : get_or ps k d ≡ part.Node m) (below : AreBelow leaf_count m.0 own) where
  -- the parts of a part lie below the same number
  pub own_below : AreBelow leaf_count n (drop k ps) → AreBelow leaf_count n own
  own_below b = let less = node_below leaf_count n ps k d m b lt is in wider leaf_count m.0 n own (omega arith) below

  -- and a walk over them is nearer to its end
  pub nearer : past_of own < past_of ps
  nearer = omega (arith, past_of-least leaf_count m.0 own below, past_of-node ps k d m lt is)
