-- The units of the parts that are left, one part further.
use Rattle.std.proofs.Common.{◌≡◌, ◌≢◌, ℕ, ◌+◌, ◌<◌, ◌≤◌, ◌^◌, Bool, true, false, List, [], ◌∷◌, ◌++◌, length, get_or}
use Rattle.std.proofs.Common.{drop, refl, sym, ap, subst, ◌∙◌, arith, append_assoc, append-nil, length-append}
use Rattle.std.specs.Prelude.{Option, if◌then◌else◌, ◌==◌, ◌||◌}
use Rattle.std.proofs.lemmas.List.{drop_all}
use Rattle.std.proofs.lemmas.Bool.{eq-eqb, ne_eqb}
use Rattle.rw_base.specs.declared.tree.NodeId.{NodeId}
use Rattle.rw_base.specs.declared.tree.NodeRow.{NodeRow}
use Rattle.rw_base.specs.declared.tree.Part.{Part}
use Rattle.rw_base.specs.declared.tree.Part.TheVariants as part
use Rattle.rw_base.specs.Arena.{Arena, IsTree, first_of, past_of, kind_of, parts_of}
use Rattle.rw_base.specs.Trees.{Trees, Numbered, none, leaf, node, width, size}
use Rattle.rw_base.specs.Laid.{kids_of, forest_of}
use Rattle.rw_base.specs.PartLaws.{leaf_next, node_next, none_next}
use Rattle.rw_grammar.specs.Results.{class_in}
use Rattle.java_lex.specs.declared.class.TheConstants.{BRACE_OPEN}
use Rattle.java_reader.specs.declared.role.Role.{Role}
use Rattle.java_reader.specs.declared.role.Role.TheVariants as role
use Rattle.java_reader.specs.declared.unit.UnitRef.{UnitRef}
use Rattle.java_reader.specs.declared.unit.UnitKind.TheVariants as kind
use Rattle.java_reader.specs.Units.{role_of, unit, units_in, of_node, node_units, begin, next_in, owner_in, outer_in}
use Rattle.java_reader.specs.Units.{head_width, declares, some_node, is_body, is_type, is_plain, top_width}
use Rattle.rw_base.specs.WalkLaws.{Stands}
use Rattle.java_reader.specs.Walking.{Walking, Heading}
use Rattle.rw_base.specs.WalkLaws.{kids_end}
use Rattle.rw_base.specs.WalkLaws.{leaf_step, node_step, stands_first}

-- ---- there are at most as many units as nodes

module _ {N : Type 0} (c : ℕ → ℕ) where
  pub few_of : (r : Role) (owner from at : ℕ) (kids : Trees N ℕ) (inner : List UnitRef) → length (of_node c r owner from at kids inner) ≤ length inner + 1
  few_of role.Declares owner from at kids inner = omega arith
  few_of role.Modified owner from at kids inner = by_tests (declares kids) (some_node kids)
    where
      by_tests : (a b : Bool) → length (if a then inner else if b then of_node c role.Stands owner from at kids inner else []) ≤ length inner + 1
      by_tests true b = omega arith
      by_tests false true = omega arith
      by_tests false false = omega arith
  few_of role.Holds owner from at kids inner = omega arith
  few_of role.Stands owner from at kids inner = omega arith
  few_of role.Plain owner from at kids inner = omega arith

  pub few_in : (n owner : ℕ) (outer : Option ℕ) (at : ℕ) (f : Trees N ℕ) → length (units_in c n owner outer at f) ≤ size f
  unfolding units_in
  few_in n owner outer at none = omega arith
  few_in n owner outer at (leaf i f) = few_in n owner outer (at + 1) f
  few_in n owner outer at (node u k kids f) =
      let inner = units_in c (next_in (role_of k) n) (owner_in (role_of k) n owner) (outer_in (role_of k) at) at kids in
      let here = of_node c (role_of k) owner (begin outer at) at kids inner in
      let rest = units_in c (n + length here) owner outer (at + width kids) f in
      omega (
        arith,
        length-append here rest,
        few_of (role_of k) owner (begin outer at) at kids inner,
        few_in (next_in (role_of k) n) (owner_in (role_of k) n owner) (outer_in (role_of k) at) at kids,
        few_in (n + length here) owner outer (at + width kids) f,
      )

  pub few_node : (n owner : ℕ) (outer : Option ℕ) (at : ℕ) (r : Role) (kids : Trees N ℕ) → length (node_units c n owner outer at r kids) ≤ size kids + 1
  few_node n owner outer at r kids =
      omega (arith, few_of r owner (begin outer at) at kids (units_in c (next_in r n) (owner_in r n owner) (outer_in r at) at kids), few_in (next_in r n) (owner_in r n owner) (outer_in r at) at kids)

-- ---- the walk

module _ (t : Arena) (tree : IsTree t) (n past owner : ℕ) (outer : Option ℕ) (ps : List Part) (all out : List UnitRef) where
  abbrev c : ℕ → ℕ
  c = class_in t.leaves

  pub walking_start : n < length t.nodes → (first : ℕ) → ps ≡ parts_of t.nodes n → first ≡ first_of t.nodes n → past ≡ past_of t.nodes n
      → kids_of t.nodes n ≡ forest_of t.nodes ps → length out + size (kids_of t.nodes n) < 2 ^ 32
      → all ≡ out ++ units_in c (length out) owner outer first (kids_of t.nodes n) → Walking t n past owner outer ps all out
  walking_start lt first e f p kids few same = record {
    at = first;
    stands = stands_first t tree n lt ps first past e f p;
    few = subst (λ g. length out + size g < 2 ^ 32) kids few;
    same = ap (λ (g : Numbered). out ++ units_in c (length out) owner outer first g) (sym kids) ∙ sym same;
  }

  pub walking_end : (k : ℕ) → length ps ≤ k → Walking t n past owner outer (drop k ps) all out → out ≡ all
  unfolding units_in
  walking_end k le w =
      sym (append-nil out) ∙ (ap (λ (g : Numbered). out ++ units_in c (length out) owner outer w.at g) (sym (none_next t.nodes ps k le)) ∙ w.same)

  module _ (k : ℕ) (d : Part) where
    pub walking_leaf : (i : ℕ) → k < length ps → get_or ps k d ≡ part.Leaf i → Walking t n past owner outer (drop k ps) all out → Walking t n past owner outer (drop (k + 1) ps) all out
    unfolding units_in
    walking_leaf i lt e w =
        let next = leaf_next t.nodes ps k d i lt e in
        record {
          at = w.at + 1;
          stands = (leaf_step t n past ps k d lt i w.at e w.stands).rest;
          few = omega (arith, w.few, ap size next);
          same = ap (λ (g : Numbered). out ++ units_in c (length out) owner outer w.at g) (sym next) ∙ w.same;
        }

    pub walking_few : (m : NodeId) → k < length ps → get_or ps k d ≡ part.Node m → Walking t n past owner outer (drop k ps) all out → length out + (size (kids_of t.nodes m.0) + 1) < 2 ^ 32
    walking_few m lt e w = omega (arith, w.few, ap size (node_next t.nodes ps k d m lt e))

    pub walking_below : (m : NodeId) → k < length ps → get_or ps k d ≡ part.Node m → Walking t n past owner outer (drop k ps) all out → m.0 < n
    walking_below m lt e w = (node_step t n past ps k d lt m w.at e w.stands).below

    pub walking_node : (m : NodeId) (new : List UnitRef) → n < length t.nodes → k < length ps → get_or ps k d ≡ part.Node m
        → new ≡ out ++ node_units c (length out) owner outer (first_of t.nodes m.0) (role_of (kind_of t.nodes m.0)) (kids_of t.nodes m.0)
        → Walking t n past owner outer (drop k ps) all out → Walking t n past owner outer (drop (k + 1) ps) all new
    unfolding units_in
    walking_node m new inside lt e is w =
        let next = node_next t.nodes ps k d m lt e in
        let step = node_step t n past ps k d lt m w.at e w.stands in
        let first = first_of t.nodes m.0 in
        let kids = kids_of t.nodes m.0 in
        let rest = forest_of t.nodes (drop (k + 1) ps) in
        let here = node_units c (length out) owner outer first (role_of (kind_of t.nodes m.0)) kids in
        let long : length new ≡ length out + length here = ap length is ∙ length-append out here in
        let before : out ++ units_in c (length out) owner outer first (node m.0 (kind_of t.nodes m.0) kids rest) ≡ all =
        ap (λ a. out ++ units_in c (length out) owner outer a (node m.0 (kind_of t.nodes m.0) kids rest)) step.here
        ∙ (ap (λ (g : Numbered). out ++ units_in c (length out) owner outer w.at g) (sym next) ∙ w.same) in
        record {
          at = past_of t.nodes m.0;
          stands = step.rest;
          few = omega (arith, w.few, ap size next, long, few_node c (length out) owner outer first (role_of (kind_of t.nodes m.0)) kids);
          same =
              ap (λ x. x ++ units_in c (length new) owner outer (past_of t.nodes m.0) rest) is
              ∙ (ap (λ x. (out ++ here) ++ units_in c x owner outer (past_of t.nodes m.0) rest) long
              ∙ (append_assoc out here (units_in c (length out + length here) owner outer (past_of t.nodes m.0) rest)
              ∙ (ap (λ a. out ++ (here ++ units_in c (length out + length here) owner outer a rest)) (sym (kids_end t tree m.0 (omega (arith, step.below))))
              ∙ before)));
        }

-- ---- heads

module _ (t : Arena) (tree : IsTree t) (n past : ℕ) (ps : List Part) (end : ℕ) where
  pub heading_start : n < length t.nodes → (first : ℕ) → ps ≡ parts_of t.nodes n → first ≡ first_of t.nodes n → past ≡ past_of t.nodes n
      → kids_of t.nodes n ≡ forest_of t.nodes ps → end ≡ first + head_width (class_in t.leaves) (kids_of t.nodes n) → Heading t n past ps end
  heading_start lt first e f p kids same = record {
    at = first;
    stands = stands_first t tree n lt ps first past e f p;
    same = ap (λ (g : Numbered). first + head_width (class_in t.leaves) g) (sym kids) ∙ sym same;
  }

  pub heading_end : (k : ℕ) → length ps ≤ k → Heading t n past (drop k ps) end → past ≡ end
  unfolding head_width
  heading_end k le h =
      let no_parts : drop k ps ≡ [] = drop_all k ps le in
      let runs : h.at ≡ past = (subst (λ qs. Stands t n past qs h.at) no_parts h.stands).runs in
      omega (arith, runs, ap (λ (g : Numbered). h.at + head_width (class_in t.leaves) g) (none_next t.nodes ps k le), h.same)

  module _ (k : ℕ) (d : Part) where
    module _ (i : ℕ) (lt : k < length ps) (e : get_or ps k d ≡ part.Leaf i) (h : Heading t n past (drop k ps) end) where
      pub heading_inside : i < length t.leaves
      heading_inside = (leaf_step t n past ps k d lt i h.at e h.stands).inside

      cut : h.at + (if class_in t.leaves i == BRACE_OPEN then 0 else 1 + head_width (class_in t.leaves) (forest_of t.nodes (drop (k + 1) ps))) ≡ end
      unfolding head_width
      cut = ap (λ (g : Numbered). h.at + head_width (class_in t.leaves) g) (sym (leaf_next t.nodes ps k d i lt e)) ∙ h.same

      pub heading_brace : class_in t.leaves i ≡ BRACE_OPEN → i ≡ end
      heading_brace here = let is = eq-eqb (class_in t.leaves i) BRACE_OPEN here in let q : h.at + 0 ≡ end = ap (λ b. h.at + (if b then 0 else 1 + head_width (class_in t.leaves) (forest_of t.nodes (drop (k + 1) ps)))) (sym is) ∙ cut in
          omega (arith, q, (leaf_step t n past ps k d lt i h.at e h.stands).here)

      pub heading_leaf : class_in t.leaves i ≢ BRACE_OPEN → Heading t n past (drop (k + 1) ps) end
      heading_leaf other = let is = ne_eqb (class_in t.leaves i) BRACE_OPEN other in let q : h.at + (1 + head_width (class_in t.leaves) (forest_of t.nodes (drop (k + 1) ps))) ≡ end = ap (λ b. h.at + (if b then 0 else 1 + head_width (class_in t.leaves) (forest_of t.nodes (drop (k + 1) ps)))) (sym is) ∙ cut in
          record { at = h.at + 1; stands = (leaf_step t n past ps k d lt i h.at e h.stands).rest; same = omega (arith, q) }

    module _ (m : NodeId) (lt : k < length ps) (e : get_or ps k d ≡ part.Node m) (h : Heading t n past (drop k ps) end) where
      pub heading_below : m.0 < n
      heading_below = (node_step t n past ps k d lt m h.at e h.stands).below

      cut_node : h.at + (if is_body (role_of (kind_of t.nodes m.0)) then 0 else width (kids_of t.nodes m.0) + head_width (class_in t.leaves) (forest_of t.nodes (drop (k + 1) ps))) ≡ end
      unfolding head_width
      cut_node = ap (λ (g : Numbered). h.at + head_width (class_in t.leaves) g) (sym (node_next t.nodes ps k d m lt e)) ∙ h.same

      pub heading_body : is_body (role_of (kind_of t.nodes m.0)) ≡ true → first_of t.nodes m.0 ≡ end
      heading_body is = let q : h.at + 0 ≡ end = ap (λ b. h.at + (if b then 0 else width (kids_of t.nodes m.0) + head_width (class_in t.leaves) (forest_of t.nodes (drop (k + 1) ps)))) (sym is) ∙ cut_node in
          omega (arith, q, (node_step t n past ps k d lt m h.at e h.stands).here)

      pub heading_node : n < length t.nodes → is_body (role_of (kind_of t.nodes m.0)) ≡ false → Heading t n past (drop (k + 1) ps) end
      heading_node inside is = let q : h.at + (width (kids_of t.nodes m.0) + head_width (class_in t.leaves) (forest_of t.nodes (drop (k + 1) ps))) ≡ end = ap (λ b. h.at + (if b then 0 else width (kids_of t.nodes m.0) + head_width (class_in t.leaves) (forest_of t.nodes (drop (k + 1) ps)))) (sym is) ∙ cut_node in
          let step = node_step t n past ps k d lt m h.at e h.stands in
          record { at = past_of t.nodes m.0; stands = step.rest; same = omega (arith, q, step.here, kids_end t tree m.0 (omega (arith, step.below))) }

-- ---- whether there is a node, and a type

pub node_none : (rows : List NodeRow) (ps : List Part) (k : ℕ) → length ps ≤ k → some_node (forest_of rows (drop k ps)) ≡ false
unfolding some_node
node_none rows ps k le = ap some_node (none_next rows ps k le)

pub type_none : (rows : List NodeRow) (ps : List Part) (k : ℕ) → length ps ≤ k → declares (forest_of rows (drop k ps)) ≡ false
unfolding declares
type_none rows ps k le = ap declares (none_next rows ps k le)

module _ (rows : List NodeRow) (ps : List Part) (k : ℕ) (d : Part) where
  pub node_leaf : (i : ℕ) → k < length ps → get_or ps k d ≡ part.Leaf i → some_node (forest_of rows (drop k ps)) ≡ some_node (forest_of rows (drop (k + 1) ps))
  unfolding some_node
  node_leaf i lt e = ap some_node (leaf_next rows ps k d i lt e)

  pub node_here : (m : NodeId) → k < length ps → get_or ps k d ≡ part.Node m → some_node (forest_of rows (drop k ps)) ≡ true
  unfolding some_node
  node_here m lt e = ap some_node (node_next rows ps k d m lt e)

  pub type_leaf : (i : ℕ) → k < length ps → get_or ps k d ≡ part.Leaf i → declares (forest_of rows (drop k ps)) ≡ declares (forest_of rows (drop (k + 1) ps))
  unfolding declares
  type_leaf i lt e = ap declares (leaf_next rows ps k d i lt e)

  pub type_here : (m : NodeId) → k < length ps → get_or ps k d ≡ part.Node m → is_type (role_of (kind_of rows m.0)) ≡ true → declares (forest_of rows (drop k ps)) ≡ true
  unfolding declares
  type_here m lt e is = ap declares (node_next rows ps k d m lt e) ∙ ap (λ b. b || declares (forest_of rows (drop (k + 1) ps))) is

  pub type_other : (m : NodeId) → k < length ps → get_or ps k d ≡ part.Node m → is_type (role_of (kind_of rows m.0)) ≡ false
      → declares (forest_of rows (drop k ps)) ≡ declares (forest_of rows (drop (k + 1) ps))
  unfolding declares
  type_other m lt e is = ap declares (node_next rows ps k d m lt e) ∙ ap (λ b. b || declares (forest_of rows (drop (k + 1) ps))) is

-- ---- a member

module _ (c : ℕ → ℕ) (n owner : ℕ) (outer : Option ℕ) (first past : ℕ) (r : Role) (kids : Numbered) where
  pub unit_of_stands : r ≡ role.Stands → first + width kids ≡ past → unit kind.Member first past owner ∷ [] ≡ node_units c n owner outer first r kids
  unit_of_stands e p = ap (λ b. unit kind.Member first b owner ∷ []) (sym p) ∙ rw e refl

  pub unit_of_modified : r ≡ role.Modified → declares kids ≡ false → some_node kids ≡ true → first + width kids ≡ past → unit kind.Member first past owner ∷ [] ≡ node_units c n owner outer first r kids
  unit_of_modified e other some p = ap (λ b. unit kind.Member first b owner ∷ []) (sym p) ∙ rw e (rw other (rw some refl))

-- ---- the top

module _ (rows : List NodeRow) (ps : List Part) (k : ℕ) (d : Part) where
  pub top_leaf : (i : ℕ) → k < length ps → get_or ps k d ≡ part.Leaf i → top_width (forest_of rows (drop k ps)) ≡ 0
  unfolding top_width
  top_leaf i lt e = ap top_width (leaf_next rows ps k d i lt e)

  pub top_node : (m : NodeId) → k < length ps → get_or ps k d ≡ part.Node m
      → top_width (forest_of rows (drop k ps)) ≡ (if is_plain (role_of (kind_of rows m.0)) then width (kids_of rows m.0) + top_width (forest_of rows (drop (k + 1) ps)) else 0)
  unfolding top_width
  top_node m lt e = ap top_width (node_next rows ps k d m lt e)

pub top_none : (rows : List NodeRow) (ps : List Part) (k : ℕ) → length ps ≤ k → top_width (forest_of rows (drop k ps)) ≡ 0
unfolding top_width
top_none rows ps k le = ap top_width (none_next rows ps k le)

module _ (t : Arena) (tree : IsTree t) (n : ℕ) (inside : n < length t.nodes) (ps : List Part) (k : ℕ) (d : Part) (lt : k < length ps) (m : NodeId) (e : get_or ps k d ≡ part.Node m)
    (end : ℕ) (s : Stands t n (past_of t.nodes n) (drop k ps) end) where
  pub top_here : is_plain (role_of (kind_of t.nodes m.0)) ≡ false → top_width (forest_of t.nodes (drop k ps)) ≡ 0
  top_here is = top_node t.nodes ps k d m lt e ∙ ap (λ b. if b then width (kids_of t.nodes m.0) + top_width (forest_of t.nodes (drop (k + 1) ps)) else 0) is

  pub top_on : is_plain (role_of (kind_of t.nodes m.0)) ≡ true
      → past_of t.nodes m.0 + top_width (forest_of t.nodes (drop (k + 1) ps)) ≡ end + top_width (forest_of t.nodes (drop k ps))
  top_on is =
      let step = node_step t n (past_of t.nodes n) ps k d lt m end e s in
      let here = top_node t.nodes ps k d m lt e ∙ ap (λ b. if b then width (kids_of t.nodes m.0) + top_width (forest_of t.nodes (drop (k + 1) ps)) else 0) is in
      omega (arith, here, step.here, kids_end t tree m.0 (omega (arith, step.below)))

  pub top_stands : Stands t n (past_of t.nodes n) (drop (k + 1) ps) (past_of t.nodes m.0)
  top_stands = (node_step t n (past_of t.nodes n) ps k d lt m end e s).rest
