-- The trees below a node with other labels, part by part.
use Rattle.std.proofs.Common.{◌≡◌, ℕ, ◌+◌, ◌<◌, ◌≤◌, List, length, get_or, drop, refl, ap, arith}
use Rattle.rw_base.specs.declared.tree.NodeId.{NodeId}
use Rattle.rw_base.specs.declared.tree.Part.{Part}
use Rattle.rw_base.specs.declared.tree.Part.TheVariants as part
use Rattle.rw_base.specs.declared.tree.NodeRow.{NodeRow}
use Rattle.rw_base.specs.Arena.{Arena, IsTree, kind_of, parts_of}
use Rattle.rw_base.specs.Trees.{Trees, none, leaf, node, width, size, relabel}
use Rattle.rw_base.specs.Laid.{kids_of, forest_of}
use Rattle.rw_base.specs.PartLaws.{leaf_next, node_next, none_next, kids_at}

module _ {N L M K : Type 0} (f : N → M) (g : L → K) where
  pub width_relabel : (ts : Trees N L) → width (relabel f g ts) ≡ width ts
  width_relabel none = refl
  width_relabel (leaf l ts) = omega (arith, width_relabel ts)
  width_relabel (node n k kids ts) = omega (arith, width_relabel kids, width_relabel ts)

  pub size_relabel : (ts : Trees N L) → size (relabel f g ts) ≡ size ts
  size_relabel none = refl
  size_relabel (leaf l ts) = size_relabel ts
  size_relabel (node n k kids ts) = omega (arith, size_relabel kids, size_relabel ts)

module _ {M K : Type 0} (f : ℕ → M) (g : ℕ → K) (rows : List NodeRow) where
  -- the trees below a node, and those of parts, with these labels
  abbrev pub kids_as : ℕ → Trees M K
  kids_as n = relabel f g (kids_of rows n)

  abbrev pub forest_as : List Part → Trees M K
  forest_as ps = relabel f g (forest_of rows ps)

  module _ (ps : List Part) (k : ℕ) where
    pub leaf_next_as : (d : Part) (i : ℕ) → k < length ps → get_or ps k d ≡ part.Leaf i
        → forest_as (drop k ps) ≡ leaf (g i) (forest_as (drop (k + 1) ps))
    leaf_next_as d i lt e = ap (relabel f g) (leaf_next rows ps k d i lt e)

    pub node_next_as : (d : Part) (m : NodeId) → k < length ps → get_or ps k d ≡ part.Node m
        → forest_as (drop k ps) ≡ node (f m.0) (kind_of rows m.0) (kids_as m.0) (forest_as (drop (k + 1) ps))
    node_next_as d m lt e = ap (relabel f g) (node_next rows ps k d m lt e)

    pub none_next_as : length ps ≤ k → forest_as (drop k ps) ≡ none
    none_next_as le = ap (relabel f g) (none_next rows ps k le)

-- the trees below a node are those of its parts
pub kids_as_at : {M K : Type 0} (f : ℕ → M) (g : ℕ → K) (t : Arena) → IsTree t → (n : ℕ) → n < length t.nodes
    → kids_as f g t.nodes n ≡ forest_as f g t.nodes (parts_of t.nodes n)
kids_as_at f g t tree n lt = ap (relabel f g) (kids_at t tree n lt)
