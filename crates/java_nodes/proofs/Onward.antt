-- What stands among the parts of a node from one on.
use Rattle.std.proofs.Common.{◌≡◌, ℕ, ◌+◌, ◌<◌, ◌≤◌, List, [], ◌∷◌, length, get_or, drop, refl, ap, ◌∙◌}
use Rattle.rw_base.specs.declared.tree.Leaf.{Leaf}
use Rattle.rw_base.specs.declared.tree.NodeId.{NodeId}
use Rattle.rw_base.specs.declared.tree.NodeRow.{NodeRow}
use Rattle.rw_base.specs.declared.tree.Part.{Part}
use Rattle.rw_base.specs.declared.tree.Part.TheVariants as part
use Rattle.rw_base.specs.Arena.{kind_of}
use Rattle.rw_base.specs.Laid.{forest_of}
use Rattle.rw_base.specs.PartLaws.{leaf_next, node_next, none_next, below_next, leaf_below, node_below}
use Rattle.std.specs.Prelude.{true, false}
use Rattle.java_nodes.specs.Directly.{leaves_in, kinds_in, words_in, names_in, class_at, is_name}

module _ (rows : List NodeRow) (ps : List Part) (k : ℕ) (d : Part) where
  pub leaves_leaf : (i : ℕ) → k < length ps → get_or ps k d ≡ part.Leaf i
      → leaves_in (forest_of rows (drop k ps)) ≡ i ∷ leaves_in (forest_of rows (drop (k + 1) ps))
  leaves_leaf i h e = ap leaves_in (leaf_next rows ps k d i h e)

  pub leaves_node : (m : NodeId) → k < length ps → get_or ps k d ≡ part.Node m
      → leaves_in (forest_of rows (drop k ps)) ≡ leaves_in (forest_of rows (drop (k + 1) ps))
  leaves_node m h e = ap leaves_in (node_next rows ps k d m h e)

  pub kinds_leaf : (i : ℕ) → k < length ps → get_or ps k d ≡ part.Leaf i
      → kinds_in (forest_of rows (drop k ps)) ≡ kinds_in (forest_of rows (drop (k + 1) ps))
  kinds_leaf i h e = ap kinds_in (leaf_next rows ps k d i h e)

  pub kinds_node : (m : NodeId) → k < length ps → get_or ps k d ≡ part.Node m
      → kinds_in (forest_of rows (drop k ps)) ≡ kind_of rows m.0 ∷ kinds_in (forest_of rows (drop (k + 1) ps))
  kinds_node m h e = ap kinds_in (node_next rows ps k d m h e)

  pub words_leaf : (leaves : List Leaf) (i : ℕ) → k < length ps → get_or ps k d ≡ part.Leaf i
      → words_in leaves (forest_of rows (drop k ps))
      ≡ class_at leaves i ∷ words_in leaves (forest_of rows (drop (k + 1) ps))
  words_leaf leaves i h e = ap (words_in leaves) (leaf_next rows ps k d i h e)

  pub words_node : (leaves : List Leaf) (m : NodeId) → k < length ps → get_or ps k d ≡ part.Node m
      → words_in leaves (forest_of rows (drop k ps)) ≡ words_in leaves (forest_of rows (drop (k + 1) ps))
  words_node leaves m h e = ap (words_in leaves) (node_next rows ps k d m h e)

  -- a leaf that is a name, one that isn't, and a node
  pub names_name : (leaves : List Leaf) (i : ℕ) → k < length ps → get_or ps k d ≡ part.Leaf i
      → is_name (class_at leaves i) ≡ true
      → names_in leaves (forest_of rows (drop k ps)) ≡ i ∷ names_in leaves (forest_of rows (drop (k + 1) ps))
  names_name leaves i h e t = ap (names_in leaves) (leaf_next rows ps k d i h e) ∙ rw t refl

  pub names_other : (leaves : List Leaf) (i : ℕ) → k < length ps → get_or ps k d ≡ part.Leaf i
      → is_name (class_at leaves i) ≡ false
      → names_in leaves (forest_of rows (drop k ps)) ≡ names_in leaves (forest_of rows (drop (k + 1) ps))
  names_other leaves i h e t = ap (names_in leaves) (leaf_next rows ps k d i h e) ∙ rw t refl

  pub names_node : (leaves : List Leaf) (m : NodeId) → k < length ps → get_or ps k d ≡ part.Node m
      → names_in leaves (forest_of rows (drop k ps)) ≡ names_in leaves (forest_of rows (drop (k + 1) ps))
  names_node leaves m h e = ap (names_in leaves) (node_next rows ps k d m h e)

pub names_none : (leaves : List Leaf) (rows : List NodeRow) (ps : List Part) (k : ℕ) → length ps ≤ k
    → names_in leaves (forest_of rows (drop k ps)) ≡ []
names_none leaves rows ps k le = ap (names_in leaves) (none_next rows ps k le)

pub leaves_none : (rows : List NodeRow) (ps : List Part) (k : ℕ) → length ps ≤ k
    → leaves_in (forest_of rows (drop k ps)) ≡ []
leaves_none rows ps k le = ap leaves_in (none_next rows ps k le)

pub words_none : (leaves : List Leaf) (rows : List NodeRow) (ps : List Part) (k : ℕ) → length ps ≤ k
    → words_in leaves (forest_of rows (drop k ps)) ≡ []
words_none leaves rows ps k le = ap (words_in leaves) (none_next rows ps k le)

pub kinds_none : (rows : List NodeRow) (ps : List Part) (k : ℕ) → length ps ≤ k
    → kinds_in (forest_of rows (drop k ps)) ≡ []
kinds_none rows ps k le = ap kinds_in (none_next rows ps k le)

-- each list, and that what stands from one part on lies in the tree
pub ruleset of_leaves = (leaves_leaf, leaves_node, leaves_none)

pub ruleset of_words = (words_leaf, words_node, words_none, below_next, leaf_below, node_below)

pub ruleset of_kinds = (kinds_leaf, kinds_node, kinds_none, below_next, leaf_below, node_below)

pub ruleset of_names = (names_name, names_other, names_node, names_none, below_next, leaf_below, node_below)
