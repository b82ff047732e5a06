-- The parts of a node by their positions, and the nodes among them, one part further.
use Rattle.std.proofs.Common.{◌≡◌, ℕ, zero, suc, ◌+◌, ◌<◌, ◌≤◌, List, [], ◌∷◌, ◌++◌, length, get_or, drop}
use Rattle.std.proofs.Common.{refl, sym, ap, ◌∙◌, append_assoc, append-nil}
use Rattle.rw_base.specs.declared.tree.NodeId.{NodeId}
use Rattle.rw_base.specs.declared.tree.NodeRow.{NodeRow}
use Rattle.rw_base.specs.declared.tree.Part.{Part}
use Rattle.rw_base.specs.declared.tree.Part.TheVariants as part
use Rattle.rw_base.specs.Arena.{kind_of, AreBelow}
use Rattle.rw_base.specs.Trees.{Numbered, none, leaf, node}
use Rattle.rw_base.specs.Laid.{kids_of, forest_of}
use Rattle.rw_base.specs.PartLaws.{leaf_next, node_next, none_next, forest_nil, forest_leaf, forest_node}
use Rattle.yaml_tree.specs.Entries.{behind}
use Rattle.recipe_yaml.specs.Nodes.{nodes_in}

pub behind_parts : (rows : List NodeRow) (ps : List Part) (k : ℕ)
    → behind k (forest_of rows ps) ≡ forest_of rows (drop k ps)
behind_parts rows ps zero = refl
behind_parts rows [] (suc k) = ap (behind (suc k)) (forest_nil rows) ∙ sym (forest_nil rows)
behind_parts rows (part.Leaf i ∷ ps) (suc k) = ap (behind (suc k)) (forest_leaf rows i ps) ∙ behind_parts rows ps k
behind_parts rows (part.Node m ∷ ps) (suc k) = ap (behind (suc k)) (forest_node rows m ps) ∙ behind_parts rows ps k

module _ (rows : List NodeRow) (ps : List Part) (kids : Numbered) (same : kids ≡ forest_of rows ps) (k : ℕ) where
  behind_here : behind k kids ≡ forest_of rows (drop k ps)
  behind_here = ap (behind k) same ∙ behind_parts rows ps k

  pub none_behind : length ps ≤ k → behind k kids ≡ none
  none_behind le = behind_here ∙ none_next rows ps k le

  pub leaf_behind : (d : Part) (i : ℕ) → k < length ps → get_or ps k d ≡ part.Leaf i
      → behind k kids ≡ leaf i (forest_of rows (drop (k + 1) ps))
  leaf_behind d i lt e = behind_here ∙ leaf_next rows ps k d i lt e

  pub node_behind : (d : Part) (m : NodeId) → k < length ps → get_or ps k d ≡ part.Node m
      → behind k kids ≡ node m.0 (kind_of rows m.0) (kids_of rows m.0) (forest_of rows (drop (k + 1) ps))
  node_behind d m lt e = behind_here ∙ node_next rows ps k d m lt e

pub below_at : (count n : ℕ) (ps : List Part) (k : ℕ) → AreBelow count n ps → AreBelow count n (drop k ps)
below_at count n ps zero b = b
below_at count n [] (suc k) b = b
below_at count n (part.Leaf i ∷ ps) (suc k) b = below_at count n ps k b.1
below_at count n (part.Node m ∷ ps) (suc k) b = below_at count n ps k b.1

-- ---- the nodes among the parts that are left

module _ (rows : List NodeRow) (ps : List Part) (all out : List NodeId) (k : ℕ) where
  pub nodes_end : length ps ≤ k → out ++ nodes_in (forest_of rows (drop k ps)) ≡ all → out ≡ all
  nodes_end le w = sym (append-nil out) ∙ (ap (λ (g : Numbered). out ++ nodes_in g) (sym (none_next rows ps k le)) ∙ w)

  module _ (d : Part) (lt : k < length ps) (so_far : out ++ nodes_in (forest_of rows (drop k ps)) ≡ all) where
    pub nodes_leaf : (i : ℕ) → get_or ps k d ≡ part.Leaf i → out ++ nodes_in (forest_of rows (drop (k + 1) ps)) ≡ all
    nodes_leaf i e = ap (λ (g : Numbered). out ++ nodes_in g) (sym (leaf_next rows ps k d i lt e)) ∙ so_far

    pub nodes_node : (m : NodeId) (new : List NodeId) → get_or ps k d ≡ part.Node m → new ≡ out ++ m ∷ []
        → new ++ nodes_in (forest_of rows (drop (k + 1) ps)) ≡ all
    nodes_node m new e is =
        let rest = nodes_in (forest_of rows (drop (k + 1) ps)) in
        ap (λ x. x ++ rest) is
        ∙ (append_assoc out (m ∷ []) rest
        ∙ (ap (λ (g : Numbered). out ++ nodes_in g) (sym (node_next rows ps k d m lt e)) ∙ so_far))
