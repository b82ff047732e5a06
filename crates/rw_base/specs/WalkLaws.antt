-- Walks over the parts of a node that keep the number of the leaf at which they are.
use Rattle.std.proofs.Common.{◌≡◌, ℕ, zero, suc, ◌+◌, ◌-◌, ◌<◌, List, ◌∷◌, length, get_or, drop, refl}
use Rattle.std.proofs.Common.{sym, ap, subst, ◌∙◌, add-one, arith, drop-cons}
use Rattle.rw_base.specs.declared.tree.NodeId.{NodeId}
use Rattle.rw_base.specs.declared.tree.Part.{Part}
use Rattle.rw_base.specs.declared.tree.Part.TheVariants as part
use Rattle.rw_base.specs.Arena.{Arena, IsTree, AreBelow, Runs, first_of, past_of, parts_of}
use Rattle.rw_base.specs.Trees.{width, numbers}
use Rattle.rw_base.specs.Laid.{kids_of}
use Rattle.rw_base.specs.LaidLaws.{length-leaves_in}
use Rattle.rw_base.specs.SpanLaws.{kids_leaves}

-- ---- how many leaves there are below a node

length-numbers : (a n : ℕ) → length (numbers a n) ≡ n
length-numbers a zero = refl
length-numbers a (suc n) = ap suc (length-numbers (a + 1) n)

-- as many as lie from its first to before the one behind its last
pub kids_width : (t : Arena) → IsTree t → (n : ℕ) → n < length t.nodes
    → width (kids_of t.nodes n) ≡ past_of t.nodes n - first_of t.nodes n
kids_width t tree n lt =
    sym (length-leaves_in (kids_of t.nodes n))
    ∙ (ap length (kids_leaves t tree n lt)
    ∙ length-numbers (first_of t.nodes n) (past_of t.nodes n - first_of t.nodes n))

-- so a walk over all of them ends behind its last
pub kids_end : (t : Arena) → IsTree t → (n : ℕ) → n < length t.nodes
    → first_of t.nodes n + width (kids_of t.nodes n) ≡ past_of t.nodes n
kids_end t tree n lt = omega (arith, kids_width t tree n lt, tree.ordered n lt)

-- ---- one part further

-- A walk over the parts of node n stands before these parts, at this leaf.
pub record Stands (t : Arena) (n past : ℕ) (ps : List Part) (at : ℕ) : Type 0 where
  pub below : AreBelow (length t.leaves) n ps
  pub runs : Runs t.nodes ps at past

-- the next part is the leaf i, and then the walk goes on
pub record LeafStep (t : Arena) (n past i at : ℕ) (ps : List Part) : Type 0 where
  pub here : i ≡ at
  pub inside : i < length t.leaves
  pub rest : Stands t n past ps (at + 1)

-- the next part is the node m, which begins here, and then the walk goes on
pub record NodeStep (t : Arena) (n past m at : ℕ) (ps : List Part) : Type 0 where
  pub here : first_of t.nodes m ≡ at
  pub below : m < n
  pub rest : Stands t n past ps (past_of t.nodes m)

ahead : (ps : List Part) (k : ℕ) (d p : Part) → k < length ps → get_or ps k d ≡ p → drop k ps ≡ p ∷ drop (k + 1) ps
ahead ps k d p h e = drop-cons ps k d h ∙ (ap (λ x. x ∷ drop (suc k) ps) e ∙ rw add-one refl)

-- before the first part
pub stands_first : (t : Arena) → IsTree t → (n : ℕ) → n < length t.nodes → (ps : List Part) (first past : ℕ)
    → ps ≡ parts_of t.nodes n → first ≡ first_of t.nodes n → past ≡ past_of t.nodes n → Stands t n past ps first
stands_first t tree n lt ps first past e f p = rw (e, f, p) (record { below = tree.below n lt; runs = tree.spans n lt })

module _ (t : Arena) (n past : ℕ) (ps : List Part) (k : ℕ) (d : Part) (lt : k < length ps) where
  pub leaf_step : (i at : ℕ) → get_or ps k d ≡ part.Leaf i → Stands t n past (drop k ps) at
      → LeafStep t n past i at (drop (k + 1) ps)
  leaf_step i at e s =
      let here : Stands t n past (part.Leaf i ∷ drop (k + 1) ps) at =
      subst (λ qs. Stands t n past qs at) (ahead ps k d (part.Leaf i) lt e) s in
      record {
        here = here.runs.0;
        inside = here.below.0;
        rest = record { below = here.below.1; runs = here.runs.1 };
      }

  pub node_step : (m : NodeId) (at : ℕ) → get_or ps k d ≡ part.Node m → Stands t n past (drop k ps) at
      → NodeStep t n past m.0 at (drop (k + 1) ps)
  node_step m at e s =
      let here : Stands t n past (part.Node m ∷ drop (k + 1) ps) at =
      subst (λ qs. Stands t n past qs at) (ahead ps k d (part.Node m) lt e) s in
      record {
        here = here.runs.0;
        below = here.below.0;
        rest = record { below = here.below.1; runs = here.runs.1 };
      }
