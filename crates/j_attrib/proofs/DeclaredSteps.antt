-- Judgements of declared names, put together of what their calls ask and note.
use Rattle.std.proofs.Common.{◌≡◌, ℕ, ◌+◌, ◌-◌, ◌<◌, ◌≤◌, List, [], ◌∷◌, length, get_or, drop, refl, ap, arith}
use Rattle.std.proofs.Common.{◌∙◌, add-one, Bool}
use Rattle.std.proofs.lemmas.List.Sums.{length-filter, count_by-le-length}
use Rattle.std.specs.Prelude.{slice_get, ◌==◌}
use Rattle.rw_base.specs.declared.tree.NodeId.{NodeId}
use Rattle.rw_base.specs.declared.tree.NodeRow.{NodeRow}
use Rattle.rw_base.specs.declared.tree.Part.{Part}
use Rattle.rw_base.specs.declared.tree.Part.TheVariants as part
use Rattle.rw_base.specs.Arena.{AreBelow}
use Rattle.rw_base.specs.Laid.{forest_of, kids_of}
use Rattle.rw_base.specs.PartLaws.{leaf_next, node_next, none_next, forest_nil, forest_leaf, forest_node}
use Rattle.rw_base.specs.PartLaws.{below_next, leaf_below, node_below}
use Rattle.rw_base.specs.Trees.{none}
use Rattle.java_nodes.specs.Directly.{kinds_in}
use Rattle.jtypes.specs.World.{World}
use Rattle.judging.specs.Judging.{Judging, Judged, give}
use Rattle.judging.specs.JudgingLaws.{judged_give, judged_then}
use Rattle.judging.specs.declared.log.Log.{Log}
use Rattle.j_attrib.specs.Around.{dims, first_node}
use Rattle.j_attrib.specs.Declarations.{done_noting, last_of}
use Rattle.j_attrib.specs.declared.kinds.TheConstants.{DIMENSIONS}
use Rattle.j_attrib.specs.declared.value.Value.TheVariants as value

-- what notes, and gives nothing
pub done_judged : (d : Judging (Unit {0})) (w : World) (l m : Log) → Judged d w l m (record {})
    → Judged (done_noting d) w l m value.Nothing
done_judged d w l m h =
    judged_then d (λ x. give value.Nothing) w l m m (record {}) value.Nothing h (judged_give w m value.Nothing)

-- ---- the first node among parts

pub node_leaf : (rows : List NodeRow) (ps : List Part) (k : ℕ) (d : Part) (i : ℕ) → k < length ps
    → get_or ps k d ≡ part.Leaf i
    → first_node (forest_of rows (drop k ps)) ≡ first_node (forest_of rows (drop (k + 1) ps))
node_leaf rows ps k d i h e = ap first_node (leaf_next rows ps k d i h e)

pub node_node : (rows : List NodeRow) (ps : List Part) (k : ℕ) (d : Part) (m : NodeId) → k < length ps
    → get_or ps k d ≡ part.Node m → first_node (forest_of rows (drop k ps)) ≡ kids_of rows m.0
node_node rows ps k d m h e = ap first_node (node_next rows ps k d m h e)

pub node_none : (rows : List NodeRow) (ps : List Part) (k : ℕ) → length ps ≤ k
    → first_node (forest_of rows (drop k ps)) ≡ none
node_none rows ps k le = ap first_node (none_next rows ps k le)

-- what lies below a node lies below each later one
pub wider : (leaf_count n m : ℕ) (ps : List Part) → n < m → AreBelow leaf_count n ps → AreBelow leaf_count m ps
wider leaf_count n m [] le b = record {}
wider leaf_count n m (part.Leaf i ∷ ps) le b = (b.0, wider leaf_count n m ps le b.1)
wider leaf_count n m (part.Node j ∷ ps) le b =
    let here : j.0 < n = b.0 in
    (omega arith, wider leaf_count n m ps le b.1)

pub node_wider : (leaf_count n : ℕ) (ps qs : List Part) (k : ℕ) (d : Part) (m : NodeId)
    → AreBelow leaf_count n (drop k ps) → k < length ps → get_or ps k d ≡ part.Node m → AreBelow leaf_count m.0 qs
    → AreBelow leaf_count n qs
node_wider leaf_count n ps qs k d m b h e c =
    wider leaf_count m.0 n qs (node_below leaf_count n ps k d m b h e) c

pub ruleset of_nodes = (node_leaf, node_node, node_none, below_next, leaf_below, node_below, node_wider)

-- ---- dimensions

-- there are no more kinds than parts, and no more dimensions
few_kinds : (rows : List NodeRow) (ps : List Part) → length (kinds_in (forest_of rows ps)) ≤ length ps
few_kinds rows [] = rw (forest_nil rows) (omega arith)
few_kinds rows (part.Leaf i ∷ ps) = rw (forest_leaf rows i ps) (omega (arith, few_kinds rows ps))
few_kinds rows (part.Node m ∷ ps) = rw (forest_node rows m ps) (omega (arith, few_kinds rows ps))

pub dims_few : (rows : List NodeRow) (ps : List Part) → dims (forest_of rows ps) ≤ length ps
dims_few rows ps =
    let kinds = kinds_in (forest_of rows ps) in
    let p : ℕ → Bool = λ k. k == DIMENSIONS in
    omega (arith, length-filter p kinds, count_by-le-length p kinds, few_kinds rows ps)

-- ---- the last of a list

get_behind : {A : Type 0} (x : A) (xs : List A) (k : ℕ) → slice_get xs k ≡ slice_get (x ∷ xs) (k + 1)
get_behind x xs k = rw add-one refl

pub last_read : {A : Type 0} (xs : List A) → last_of xs ≡ slice_get xs (length xs - 1)
last_read [] = refl
last_read (x ∷ []) = refl
last_read (x ∷ y ∷ ys) =
    let e : (length (y ∷ ys) - 1) + 1 ≡ length (x ∷ y ∷ ys) - 1 = omega arith in
    last_read (y ∷ ys) ∙ (get_behind x (y ∷ ys) (length (y ∷ ys) - 1) ∙ ap (slice_get (x ∷ y ∷ ys)) e)
