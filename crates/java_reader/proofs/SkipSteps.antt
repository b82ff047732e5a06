-- Parts that lie before the leaves of a unit, or behind them, have none of its calls.
use Rattle.std.proofs.Common.{◌≡◌, ◌⊎◌, ℕ, zero, suc, ◌+◌, ◌<◌, ◌≤◌, List, [], ◌∷◌, ◌++◌, length, get_or, drop, sym, ap}
use Rattle.std.proofs.Common.{◌∙◌, arith}
use Rattle.std.proofs.Common.{append_assoc, append-nil, subst, inl, inr}
use Rattle.rw_base.specs.declared.tree.NodeId.{NodeId}
use Rattle.rw_base.specs.declared.tree.Part.{Part}
use Rattle.rw_base.specs.declared.tree.Part.TheVariants as part
use Rattle.rw_base.specs.Arena.{Arena, IsTree, AreBelow, Runs, first_of, past_of, kind_of, parts_of}
use Rattle.rw_base.specs.Trees.{Numbered}
use Rattle.rw_base.specs.Laid.{kids_of, forest_of}
use Rattle.rw_grammar.specs.Results.{class_in}
use Rattle.rw_base.specs.PartLaws.{forest_nil, forest_leaf, forest_node}
use Rattle.java_reader.specs.declared.call.CallView.{CallView}
use Rattle.java_reader.specs.Calls.{own_call, calls_in, node_calls, within}
use Rattle.java_reader.specs.Walking.{BeginsBefore, IsPartIn, begin_at, calls_from, end_at}
use Rattle.java_reader.proofs.CallSteps.{within_none, within_append, node_out, calls_leaf, calls_node, calls_end}

module _ (t : Arena) (tree : IsTree t) (c : ℕ → ℕ) (n first past : ℕ) (lt : n < length t.nodes) where
  abbrev of_parts : ℕ → List Part → List CallView
  of_parts p ps = within first past (calls_in c n p (forest_of t.nodes ps))

  of_leaf : (p i : ℕ) (ps : List Part) → of_parts p (part.Leaf i ∷ ps) ≡ of_parts (p + 1) ps
  unfolding calls_in
  of_leaf p i ps = ap (λ (g : Numbered). within first past (calls_in c n p g)) (forest_leaf t.nodes i ps)

  of_node : (p : ℕ) (m : NodeId) (ps : List Part) → m.0 < n
      → (past_of t.nodes m.0 ≤ first) ⊎ (past ≤ first_of t.nodes m.0)
      → of_parts p (part.Node m ∷ ps) ≡ of_parts (p + 1) ps
  unfolding calls_in
  of_node p m ps below away =
      let own = own_call c n p m.0 (kind_of t.nodes m.0) (kids_of t.nodes m.0) in
      let inner = calls_in c m.0 0 (kids_of t.nodes m.0) in
      let rest = calls_in c n (p + 1) (forest_of t.nodes ps) in
      ap (λ (g : Numbered). within first past (calls_in c n p g)) (forest_node t.nodes m ps)
      ∙ (ap (within first past) (sym (append_assoc own inner rest))
      ∙ (within_append first past (own ++ inner) rest
      ∙ ap (λ x. x ++ within first past rest)
      (sym (node_out c first past t tree n p m.0 (omega (arith, below, lt)) away []))))

  ordered : (m : NodeId) → m.0 < n → first_of t.nodes m.0 ≤ past_of t.nodes m.0
  ordered m below = tree.ordered m.0 (omega (arith, below, lt))

  -- no part before this leaf ends behind it
  rises : (ps : List Part) (at end k : ℕ) (d : Part) → AreBelow (length t.leaves) n ps → Runs t.nodes ps at end
      → k < length ps → at ≤ end_at t.nodes (get_or ps k d)
  rises [] at end k d b r h = absurd (omega (arith, h))
  rises (part.Leaf i ∷ ps) at end zero d b r h = omega (arith, r.0)
  rises (part.Leaf i ∷ ps) at end (suc k) d b r h =
      omega (arith, rises ps (at + 1) end k d b.1 r.1 (omega (arith, h)))
  rises (part.Node m ∷ ps) at end zero d b r h = omega (arith, r.0, ordered m b.0)
  rises (part.Node m ∷ ps) at end (suc k) d b r h =
      omega (arith, r.0, ordered m b.0, rises ps (past_of t.nodes m.0) end k d b.1 r.1 (omega (arith, h)))

  further : (x : Part) (ps : List Part) (p k : ℕ)
      → of_parts ((p + 1) + (k + 1)) (drop (k + 1) ps) ≡ of_parts (p + (suc k + 1)) (drop (suc k + 1) (x ∷ ps))
  further x ps p k =
      let places : (p + 1) + (k + 1) ≡ p + (suc k + 1) = omega arith in
      let long : suc (k + 1) ≡ suc k + 1 = omega arith in
      ap (λ q. of_parts q (drop (k + 1) ps)) places
      ∙ ap (λ j. of_parts (p + (suc k + 1)) (drop j (x ∷ ps))) long

  -- the parts up to one that ends before these leaves have none of their calls
  pub skipped : (ps : List Part) (at end k p : ℕ) (d : Part) → AreBelow (length t.leaves) n ps
      → Runs t.nodes ps at end → k < length ps → end_at t.nodes (get_or ps k d) ≤ first
      → of_parts p ps ≡ of_parts (p + (k + 1)) (drop (k + 1) ps)
  skipped [] at end k p d b r h e = absurd (omega (arith, h))
  skipped (part.Leaf i ∷ ps) at end zero p d b r h e = of_leaf p i ps
  skipped (part.Leaf i ∷ ps) at end (suc k) p d b r h e =
      of_leaf p i ps
      ∙ (skipped ps (at + 1) end k (p + 1) d b.1 r.1 (omega (arith, h)) e ∙ further (part.Leaf i) ps p k)
  skipped (part.Node m ∷ ps) at end zero p d b r h e = of_node p m ps b.0 (inl e)
  skipped (part.Node m ∷ ps) at end (suc k) p d b r h e =
      let risen = rises ps (past_of t.nodes m.0) end k d b.1 r.1 (omega (arith, h)) in
      of_node p m ps b.0 (inl (omega (arith, risen, e)))
      ∙ (skipped ps (past_of t.nodes m.0) end k (p + 1) d b.1 r.1 (omega (arith, h)) e
      ∙ further (part.Node m) ps p k)

  behind : (ps : List Part) (at end p : ℕ) → AreBelow (length t.leaves) n ps → Runs t.nodes ps at end → past ≤ at
      → of_parts p ps ≡ []
  unfolding calls_in
  behind [] at end p b r e =
      ap (λ (g : Numbered). within first past (calls_in c n p g)) (forest_nil t.nodes) ∙ within_none first past
  behind (part.Leaf i ∷ ps) at end p b r e =
      of_leaf p i ps ∙ behind ps (at + 1) end (p + 1) b.1 r.1 (omega (arith, e))
  behind (part.Node m ∷ ps) at end p b r e =
      of_node p m ps b.0 (inr (omega (arith, r.0, e)))
      ∙ behind ps (past_of t.nodes m.0) end (p + 1) b.1 r.1 (omega (arith, r.0, e, ordered m b.0))

  -- and so have those from one on that begins behind them
  pub left_behind : (ps : List Part) (at end k p : ℕ) (d : Part) → AreBelow (length t.leaves) n ps
      → Runs t.nodes ps at end → k < length ps → past ≤ begin_at t.nodes (get_or ps k d)
      → of_parts p (drop k ps) ≡ []
  left_behind [] at end k p d b r h e = absurd (omega (arith, h))
  left_behind (part.Leaf i ∷ ps) at end zero p d b r h e =
      behind (part.Leaf i ∷ ps) at end p b r (omega (arith, r.0, e))
  left_behind (part.Leaf i ∷ ps) at end (suc k) p d b r h e =
      left_behind ps (at + 1) end k p d b.1 r.1 (omega (arith, h)) e
  left_behind (part.Node m ∷ ps) at end zero p d b r h e =
      behind (part.Node m ∷ ps) at end p b r (omega (arith, r.0, e))
  left_behind (part.Node m ∷ ps) at end (suc k) p d b r h e =
      left_behind ps (past_of t.nodes m.0) end k p d b.1 r.1 (omega (arith, h)) e

-- ---- the same by the place of a part

part_in_at : (t : Arena) (n : ℕ) → n < length t.nodes → (ps : List Part) (k : ℕ) (d : Part)
    → AreBelow (length t.leaves) n ps → k < length ps → IsPartIn t (get_or ps k d)
part_in_at t n lt [] k d b h = absurd (omega (arith, h))
part_in_at t n lt (part.Leaf i ∷ ps) zero d b h = b.0
part_in_at t n lt (part.Leaf i ∷ ps) (suc k) d b h = part_in_at t n lt ps k d b.1 (omega (arith, h))
part_in_at t n lt (part.Node m ∷ ps) zero d b h = omega (arith, b.0, lt)
part_in_at t n lt (part.Node m ∷ ps) (suc k) d b h = part_in_at t n lt ps k d b.1 (omega (arith, h))

pub part_in : (t : Arena) (n : ℕ) → n < length t.nodes → (ps : List Part) (k : ℕ) (d : Part)
    → AreBelow (length t.leaves) n ps → k < length ps → IsPartIn t (get_or ps k d)
part_in = part_in_at

pub node_below : (count n : ℕ) (ps : List Part) (k : ℕ) (d : Part) (m : NodeId) → AreBelow count n ps → k < length ps
    → get_or ps k d ≡ part.Node m → m.0 < n
node_below count n [] k d m b h e = absurd (omega (arith, h))
node_below count n (part.Leaf i ∷ ps) zero d m b h e = absurd cc
node_below count n (part.Node j ∷ ps) zero d m b h e =
    let same : j ≡ m = cc in subst (λ (x : NodeId). x.0 < n) same b.0
node_below count n (part.Leaf i ∷ ps) (suc k) d m b h e = node_below count n ps k d m b.1 (omega (arith, h)) e
node_below count n (part.Node j ∷ ps) (suc k) d m b h e = node_below count n ps k d m b.1 (omega (arith, h)) e

module _ (t : Arena) (n first : ℕ) (ps : List Part) (k : ℕ) (d : Part) (same : ps ≡ parts_of t.nodes n) where
  abbrev own : List Part
  own = parts_of t.nodes n

  module _ (tree : IsTree t) (lt : n < length t.nodes) (h : k < length ps) where
    pub begins_later : end_at t.nodes (get_or ps k d) ≤ first → BeginsBefore t n first (k + 1)
    begins_later le past =
        let ends = subst (λ (qs : List Part). end_at t.nodes (get_or qs k d) ≤ first) same le in
        let inside = subst (λ (qs : List Part). k < length qs) same h in
        let place : 0 + (k + 1) ≡ k + 1 = omega arith in
        skipped t tree (class_in t.leaves) n first past lt own (first_of t.nodes n) (past_of t.nodes n) k 0 d
        (tree.below n lt) (tree.spans n lt) inside ends
        ∙ ap (λ p. within first past (calls_in (class_in t.leaves) n p (forest_of t.nodes (drop (k + 1) own)))) place

    pub none_left : (past : ℕ) (out all : List CallView) → past ≤ begin_at t.nodes (get_or ps k d)
        → out ++ calls_from t n first past k ≡ all → out ≡ all
    none_left past out all le w =
        let begins = subst (λ (qs : List Part). past ≤ begin_at t.nodes (get_or qs k d)) same le in
        let inside = subst (λ (qs : List Part). k < length qs) same h in
        let none = left_behind t tree (class_in t.leaves) n first past lt own (first_of t.nodes n)
        (past_of t.nodes n) k k d (tree.below n lt) (tree.spans n lt) inside begins in
        sym (append-nil out) ∙ (ap (λ vs. out ++ vs) (sym none) ∙ w)

  module _ (past : ℕ) (all out : List CallView) (w : out ++ calls_from t n first past k ≡ all) where
    pub leaf_passed : (i : ℕ) → k < length ps → get_or ps k d ≡ part.Leaf i
        → out ++ calls_from t n first past (k + 1) ≡ all
    leaf_passed i h e =
        calls_leaf (class_in t.leaves) t.nodes own n first past all out k k d
        (subst (λ (qs : List Part). k < length qs) same h) i
        (subst (λ (qs : List Part). get_or qs k d ≡ part.Leaf i) same e) w

    pub node_passed : (m : NodeId) (new : List CallView) → k < length ps → get_or ps k d ≡ part.Node m
        → new ≡ out ++ within first past
        (node_calls (class_in t.leaves) n k m.0 (kind_of t.nodes m.0) (kids_of t.nodes m.0))
        → new ++ calls_from t n first past (k + 1) ≡ all
    node_passed m new h e is =
        calls_node (class_in t.leaves) t.nodes own n first past all out k k d
        (subst (λ (qs : List Part). k < length qs) same h) m new
        (subst (λ (qs : List Part). get_or qs k d ≡ part.Node m) same e) is w

    pub all_passed : length ps ≤ k → out ≡ all
    all_passed le =
        calls_end (class_in t.leaves) t.nodes own n first past all out k k
        (subst (λ (qs : List Part). length qs ≤ k) same le) w
