-- The trees below a node, part by part: what crates above cite where they go over `parts`.
use Rattle.std.proofs.Common.{◌≡◌, ℕ, zero, suc, ◌+◌, ◌<◌, ◌≤◌, List, [], ◌∷◌, ◌++◌, length, get_or, drop, refl, ap}
use Rattle.std.proofs.Common.{subst, ◌∙◌, add-one, arith, drop-cons, length-append, append_assoc}
use Rattle.std.specs.Prelude.{slice_get, Some}
use Rattle.std.proofs.lemmas.List.{get_or_at, get_or_past, get_or_default, drop_all}
use Rattle.std.proofs.lemmas.Option.{slice_get_read}
use Rattle.rw_base.specs.declared.tree.NodeId.{NodeId}
use Rattle.rw_base.specs.declared.tree.Part.{Part}
use Rattle.rw_base.specs.declared.tree.Part.TheVariants as part
use Rattle.rw_base.specs.declared.tree.NodeRow.{NodeRow}
use Rattle.rw_base.specs.Arena.{Arena, IsTree, AreBelow, row_at, no_row, kind_of, parts_of}
use Rattle.rw_base.specs.Trees.{none, leaf, node}
use Rattle.rw_base.specs.Rows.{row_values}
use Rattle.rw_base.specs.RowLaws.{row_values_front}
use Rattle.rw_base.specs.Laid.{KindAndTrees, no_trees, trees_by, kind_and_trees, kids_of, forest_of}
use Rattle.rw_base.specs.LaidTrees.{nodes_below, kind_and_trees_row}

-- ---- one part and those behind it

-- The kind that is kept with a node's trees is the node's.
kept_kind : (rows : List NodeRow) (n : ℕ) → (kind_and_trees rows n).0 ≡ kind_of rows n
unfolding kind_and_trees row_at Rattle.rw_base.specs.Rows.value
kept_kind rows n = ap (λ m. (get_or (row_values no_trees (λ n r f. (r.kind, trees_by f r.parts)) [] rows) m no_trees).0)
    (omega arith) ∙ kinds [] rows n
  where
    kinds : (vs : List KindAndTrees) (rows : List NodeRow) (n : ℕ)
        → (get_or (row_values no_trees (λ n r f. (r.kind, trees_by f r.parts)) vs rows) (length vs + n) no_trees).0 ≡
        (get_or rows n no_row).kind
    kinds vs [] n = ap (λ (x : KindAndTrees). x.0) (get_or_past vs (length vs + n) no_trees (omega arith))
    kinds vs (r ∷ rows) zero =
        let x : KindAndTrees = (r.kind, trees_by (λ m. get_or vs m no_trees) r.parts) in
        let more = row_values_front no_trees (λ n r f. (r.kind, trees_by f r.parts)) (vs ++ x ∷ []) rows in
        ap (λ (g : List KindAndTrees). (get_or g (length vs + 0) no_trees).0) (more.1
        ∙ append_assoc vs (x ∷ []) more.0)
        ∙ ap (λ (y : KindAndTrees). y.0) (get_or_at vs x more.0 no_trees (length vs + 0) (omega arith))
    kinds vs (r ∷ rows) (suc n) =
        let x : KindAndTrees = (r.kind, trees_by (λ m. get_or vs m no_trees) r.parts) in
        let same : length vs + suc n ≡ length (vs ++ x ∷ []) + n = omega (arith, length-append vs (x ∷ [])) in
        ap (λ m.
        (get_or (row_values no_trees (λ n r f. (r.kind, trees_by f r.parts)) (vs ++ x ∷ []) rows) m no_trees).0)
        same ∙ kinds (vs ++ x ∷ []) rows n

pub forest_nil : (rows : List NodeRow) → forest_of rows [] ≡ none
unfolding forest_of
forest_nil rows = refl

pub forest_leaf : (rows : List NodeRow) (i : ℕ) (ps : List Part)
    → forest_of rows (part.Leaf i ∷ ps) ≡ leaf i (forest_of rows ps)
unfolding forest_of
forest_leaf rows i ps = refl

pub forest_node : (rows : List NodeRow) (m : NodeId) (ps : List Part)
    → forest_of rows (part.Node m ∷ ps) ≡ node m.0 (kind_of rows m.0) (kids_of rows m.0) (forest_of rows ps)
unfolding forest_of
forest_node rows m ps = ap (λ k. node m.0 k (kids_of rows m.0) (forest_of rows ps)) (kept_kind rows m.0)

-- ---- from the k-th part on

front : (ps : List Part) (k : ℕ) (d p : Part) → k < length ps → get_or ps k d ≡ p → drop k ps ≡ p ∷ drop (k + 1) ps
front ps k d p h e = drop-cons ps k d h ∙ (ap (λ x. x ∷ drop (suc k) ps) e ∙ rw add-one refl)

-- a leaf, and then the rest
pub leaf_next : (rows : List NodeRow) (ps : List Part) (k : ℕ) (d : Part) (i : ℕ) → k < length ps
    → get_or ps k d ≡ part.Leaf i →
    forest_of rows (drop k ps) ≡ leaf i (forest_of rows (drop (k + 1) ps))
leaf_next rows ps k d i h e = ap (forest_of rows) (front ps k d (part.Leaf i) h e)
    ∙ forest_leaf rows i (drop (k + 1) ps)

-- a node, and then the rest
pub node_next : (rows : List NodeRow) (ps : List Part) (k : ℕ) (d : Part) (m : NodeId) → k < length ps
    → get_or ps k d ≡ part.Node m →
    forest_of rows (drop k ps) ≡ node m.0 (kind_of rows m.0) (kids_of rows m.0) (forest_of rows (drop (k + 1) ps))
node_next rows ps k d m h e = ap (forest_of rows) (front ps k d (part.Node m) h e)
    ∙ forest_node rows m (drop (k + 1) ps)

-- nothing
pub none_next : (rows : List NodeRow) (ps : List Part) (k : ℕ) → length ps ≤ k → forest_of rows (drop k ps) ≡ none
none_next rows ps k le = ap (forest_of rows) (drop_all k ps le) ∙ forest_nil rows

pub below_next : (leaf_count n : ℕ) (ps : List Part) (k : ℕ) → AreBelow leaf_count n (drop k ps) → k < length ps
    → AreBelow leaf_count n (drop (k + 1) ps)
below_next leaf_count n ps k b h = rw add-one (after ps k b h)
  where
    after : (ps : List Part) (k : ℕ) → AreBelow leaf_count n (drop k ps) → k < length ps
        → AreBelow leaf_count n (drop (suc k) ps)
    after (part.Leaf i ∷ ps) zero b h = b.1
    after (part.Node m ∷ ps) zero b h = b.1
    after (p ∷ ps) (suc k) b h = after ps k b (omega arith)
    after [] k b h = absurd (omega arith)

-- the leaf or node that is next is below
pub leaf_below : (leaf_count n : ℕ) (ps : List Part) (k : ℕ) (d : Part) (i : ℕ) → AreBelow leaf_count n (drop k ps)
    → k < length ps → get_or ps k d ≡ part.Leaf i → i < leaf_count
leaf_below leaf_count n ps k d i b h e = (subst (AreBelow leaf_count n) (front ps k d (part.Leaf i) h e) b).0

pub node_below : (leaf_count n : ℕ) (ps : List Part) (k : ℕ) (d : Part) (m : NodeId)
    → AreBelow leaf_count n (drop k ps) → k < length ps → get_or ps k d ≡ part.Node m → m.0 < n
node_below leaf_count n ps k d m b h e = (subst (AreBelow leaf_count n) (front ps k d (part.Node m) h e) b).0

-- ---- a node and its parts

pub row_get : (rows : List NodeRow) (n : ℕ) → n < length rows → slice_get rows n ≡ Some (row_at rows n)
unfolding row_at
row_get rows n lt = slice_get_read rows (length rows) n (get_or rows n no_row) refl lt
    (get_or_default rows n no_row (get_or rows n no_row) lt)

-- A node's trees are those of its parts.
pub kids_at : (t : Arena) → IsTree t → (n : ℕ) → n < length t.nodes
    → kids_of t.nodes n ≡ forest_of t.nodes (parts_of t.nodes n)
kids_at t tree n lt = ap (λ (x : KindAndTrees). x.1)
    (kind_and_trees_row t.nodes n (row_at t.nodes n) (row_get t.nodes n lt)
    (nodes_below (length t.leaves) n (parts_of t.nodes n) (tree.below n lt)))

-- what holds of each node where it holds of all nodes before it
pub by_nodes : (P : ℕ → Type 0) → ((n : ℕ) → ((m : ℕ) → m < n → P m) → P n) → (n : ℕ) → P n
by_nodes P step n = below (suc n) n (omega arith)
  where
    below : (k n : ℕ) → n < k → P n
    below zero n h = absurd (omega arith)
    below (suc k) n h = step n (λ m g. below k m (omega arith))
