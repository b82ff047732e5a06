-- The entries of the parts that are left, one part further.
use Rattle.std.proofs.Common.{◌≡◌, ℕ, zero, suc, ◌+◌, ◌<◌, ◌≤◌, Bool}
use Rattle.std.proofs.Common.{true, false, List, [], ◌∷◌, ◌++◌, length, get_or, drop}
use Rattle.std.proofs.Common.{refl, sym, ap, ◌∙◌, append_assoc, append-nil}
use Rattle.std.specs.Prelude.{Some, None, ◌==◌, ◌&&◌, if◌then◌else◌}
use Rattle.rw_base.specs.declared.tree.NodeId.{NodeId}
use Rattle.rw_base.specs.declared.tree.NodeRow.{NodeRow}
use Rattle.rw_base.specs.declared.tree.Part.{Part}
use Rattle.rw_base.specs.declared.tree.Part.TheVariants as part
use Rattle.rw_base.specs.Arena.{kind_of, AreBelow}
use Rattle.rw_base.specs.Trees.{Numbered, none, leaf, node}
use Rattle.rw_base.specs.Laid.{kids_of, forest_of}
use Rattle.rw_base.specs.PartLaws.{leaf_next, node_next, none_next, forest_nil, forest_leaf, forest_node}
use Rattle.yaml_tree.specs.declared.entry.EntryView.{EntryView}
use Rattle.yaml_tree.specs.Entries.{behind, leaf_first, node_first, own_entry, is_flow_mapping, entries_in}
use Rattle.yaml_tree.specs.Entries.{node_entries, has_class, of_class, lone_scalar}
use Rattle.yaml_tree.specs.declared.entry.TheConstants.{FLOW, FCONTENT}
use Rattle.yaml_lex.specs.declared.class.TheConstants.{FSCALAR}
use Rattle.std.proofs.lemmas.Bool.{ne_eqb}

-- ---- parts by their positions

pub behind_parts : (rows : List NodeRow) (ps : List Part) (k : ℕ)
    → behind k (forest_of rows ps) ≡ forest_of rows (drop k ps)
behind_parts rows ps zero = refl
behind_parts rows [] (suc k) = ap (behind (suc k)) (forest_nil rows) ∙ sym (forest_nil rows)
behind_parts rows (part.Leaf i ∷ ps) (suc k) = ap (behind (suc k)) (forest_leaf rows i ps) ∙ behind_parts rows ps k
behind_parts rows (part.Node m ∷ ps) (suc k) = ap (behind (suc k)) (forest_node rows m ps) ∙ behind_parts rows ps k

module _ (rows : List NodeRow) (ps : List Part) (kids : Numbered) (same : kids ≡ forest_of rows ps) (k : ℕ) where
  pub behind_here : behind k kids ≡ forest_of rows (drop k ps)
  behind_here = ap (behind k) same ∙ behind_parts rows ps k

  pub none_behind : length ps ≤ k → behind k kids ≡ none
  none_behind le = behind_here ∙ none_next rows ps k le

  pub leaf_behind : (d : Part) (i : ℕ) → k < length ps → get_or ps k d ≡ part.Leaf i
      → behind k kids ≡ leaf i (forest_of rows (drop (k + 1) ps))
  leaf_behind d i lt e = behind_here ∙ leaf_next rows ps k d i lt e

  pub node_behind : (d : Part) (m : NodeId) → k < length ps → get_or ps k d ≡ part.Node m
      → behind k kids ≡ node m.0 (kind_of rows m.0) (kids_of rows m.0) (forest_of rows (drop (k + 1) ps))
  node_behind d m lt e = behind_here ∙ node_next rows ps k d m lt e

pub node_whole : (rows : List NodeRow) (ps : List Part) (kids : Numbered) → kids ≡ forest_of rows ps → (k : ℕ)
    (d : Part) (m : NodeId) → k < length ps → get_or ps k d ≡ part.Node m
    → behind k kids ≡ node m.0 (kind_of rows m.0) (kids_of rows m.0) (behind (k + 1) kids)
node_whole rows ps kids same k d m lt e =
    node_behind rows ps kids same k d m lt e
    ∙ ap (λ (g : Numbered). node m.0 (kind_of rows m.0) (kids_of rows m.0) g) (sym (behind_here rows ps kids same (k
    + 1)))

pub below_at : (count n : ℕ) (ps : List Part) (k : ℕ) → AreBelow count n ps → AreBelow count n (drop k ps)
below_at count n ps zero b = b
below_at count n [] (suc k) b = b
below_at count n (part.Leaf i ∷ ps) (suc k) b = below_at count n ps k b.1
below_at count n (part.Node m ∷ ps) (suc k) b = below_at count n ps k b.1

-- ---- what a node is

module _ (class : ℕ → ℕ) where
  pub flow_none : (sign kind : ℕ) (kids : Numbered) → None ≡ leaf_first kids
      → false ≡ ((kind == FLOW) && has_class class sign (leaf_first kids))
  flow_none sign kind kids e = by_test (kind == FLOW) ∙ ap (λ o. (kind == FLOW) && has_class class sign o) e
    where
      by_test : (x : Bool) → false ≡ (x && false)
      by_test true = refl
      by_test false = refl

  pub flow_some : (sign kind : ℕ) (kids : Numbered) (i x : ℕ) → kind ≡ FLOW → Some i ≡ leaf_first kids → x ≡ class i
      → (x == sign) ≡ ((kind == FLOW) && has_class class sign (leaf_first kids))
  flow_some sign kind kids i x k e p =
      ap (λ y. y == sign) p
      ∙ (ap (λ o. has_class class sign o) e
      ∙ ap (λ y. (y == FLOW) && has_class class sign (leaf_first kids)) (sym k))

  pub scalar_here : (kids : Numbered) (i x : ℕ) → Some i ≡ leaf_first kids → x ≡ class i → x ≡ FSCALAR
      → Some i ≡ of_class class FSCALAR (leaf_first kids)
  scalar_here kids i x e p q = (rw (sym p, q) refl) ∙ ap (λ o. of_class class FSCALAR o) e

  pub scalar_other : (kids : Numbered) (i x : ℕ) → Some i ≡ leaf_first kids → x ≡ class i → (x ≡ FSCALAR → ⊥)
      → None ≡ of_class class FSCALAR (leaf_first kids)
  scalar_other kids i x e p q = (rw (sym p, ne_eqb x FSCALAR q) refl) ∙ ap (λ o. of_class class FSCALAR o) e

  pub lone_none : (kids : Numbered) → None ≡ node_first kids → None ≡ lone_scalar class kids
  lone_none none e = refl
  lone_none (leaf l f) e = refl
  lone_none (node n k kids f) e = absurd (cc)

  pub lone_here : (kids : Numbered) (n k : ℕ) (inner f : Numbered) → kids ≡ node n k inner f → k ≡ FCONTENT
      → of_class class FSCALAR (leaf_first inner) ≡ lone_scalar class kids
  lone_here kids n k inner f e q =
      ap (λ x. if x == FCONTENT then of_class class FSCALAR (leaf_first inner) else None) (sym q)
      ∙ ap (lone_scalar class) (sym e)

  pub lone_other : (kids : Numbered) (n k : ℕ) (inner f : Numbered) → kids ≡ node n k inner f → (k ≡ FCONTENT → ⊥)
      → None ≡ lone_scalar class kids
  lone_other kids n k inner f e q =
      ap (λ x. if x then of_class class FSCALAR (leaf_first inner) else None) (sym (ne_eqb k FCONTENT q))
      ∙ ap (lone_scalar class) (sym e)

-- ---- the walk

module _ (c : ℕ → ℕ) (b : Bool) (rows : List NodeRow) (ps : List Part) (all out : List EntryView) where
  pub entries_end : (k : ℕ) → length ps ≤ k → out ++ entries_in c b (forest_of rows (drop k ps)) ≡ all → out ≡ all
  unfolding entries_in
  entries_end k le w =
      sym (append-nil out)
      ∙ (ap (λ (g : Numbered). out ++ entries_in c b g) (sym (none_next rows ps k le)) ∙ w)

  module _ (k : ℕ) (d : Part) (lt : k < length ps) where
    pub entries_leaf : (i : ℕ) → get_or ps k d ≡ part.Leaf i
        → out ++ entries_in c b (forest_of rows (drop k ps)) ≡ all
        → out ++ entries_in c b (forest_of rows (drop (k + 1) ps)) ≡ all
    unfolding entries_in
    entries_leaf i e w = ap (λ (g : Numbered). out ++ entries_in c b g) (sym (leaf_next rows ps k d i lt e)) ∙ w

    pub entries_node : (m : NodeId) (new : List EntryView) → get_or ps k d ≡ part.Node m
        → new ≡ out ++ node_entries c b m.0 (kind_of rows m.0) (kids_of rows m.0)
        → out ++ entries_in c b (forest_of rows (drop k ps)) ≡ all
        → new ++ entries_in c b (forest_of rows (drop (k + 1) ps)) ≡ all
    unfolding entries_in
    entries_node m new e is w =
        let own = own_entry c b m.0 (kind_of rows m.0) (kids_of rows m.0) in
        let inner = entries_in c (is_flow_mapping c (kind_of rows m.0) (kids_of rows m.0)) (kids_of rows m.0) in
        let rest = entries_in c b (forest_of rows (drop (k + 1) ps)) in
        ap (λ x. x ++ rest) is
        ∙ (append_assoc out (own ++ inner) rest
        ∙ (ap (λ x. out ++ x) (append_assoc own inner rest)
        ∙ (ap (λ (g : Numbered). out ++ entries_in c b g) (sym (node_next rows ps k d m lt e)) ∙ w)))

pub entries_both : (out middle new own inner : List EntryView) → middle ≡ out ++ own → new ≡ middle ++ inner
    → new ≡ out ++ (own ++ inner)
entries_both out middle new own inner m e = e ∙ (ap (λ x. x ++ inner) m ∙ append_assoc out own inner)
