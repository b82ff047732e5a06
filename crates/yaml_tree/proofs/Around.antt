-- The nodes that have a leaf stand one in another, from the root down, and each before the one around it.
use Rattle.std.proofs.Common.{◌≡◌, ℕ, zero, suc, ◌+◌, ◌-◌, ◌<◌, ◌≤◌, ◌==◌, Bool, false, List, [], ◌∷◌, length, get_or}
use Rattle.std.proofs.Common.{drop, refl, sym, ap, subst, ◌∙◌, arith, drop-cons, inl, inr}
use Rattle.std.specs.Prelude.{◌&&◌, ◌||◌, nat_lt, None, if◌then◌else◌}
use Rattle.std.proofs.lemmas.Bool.{cases_order, cases_eq, eq-eqb, ne_eqb, and_parts, ltb-true, false_from_ne_true}
use Rattle.std.proofs.lemmas.List.{drop_all}
use Rattle.rw_base.specs.declared.tree.NodeId.{NodeId}
use Rattle.rw_base.specs.declared.tree.NodeRow.{NodeRow}
use Rattle.rw_base.specs.declared.tree.Part.{Part}
use Rattle.rw_base.specs.declared.tree.Part.TheVariants as part
use Rattle.rw_base.specs.Arena.{Arena, IsTree, AreBelow, Runs, row_at, first_of, past_of, parts_of, times, times_in}
use Rattle.yaml_tree.specs.declared.finding.TheConstants.{SEQ}
use Rattle.yaml_tree.specs.declared.scalars.TheConstants.{MAP}
use Rattle.yaml_tree.specs.Scalars.{is_around, opening_around}
use Rattle.yaml_tree.specs.Decoding.{HasLeaf}
use Rattle.yaml_tree.proofs.ScalarSteps.{around_later}

-- ---- the node of which a node is a part

pub record Parent (rows : List NodeRow) (n : ℕ) : Type 0 where
  pub of : ℕ
  pub low : of < length rows
  pub part : 0 < times_in n (parts_of rows of)

pub parent_in : (rows : List NodeRow) (n : ℕ) → 0 < times n rows → Parent rows n
unfolding row_at
parent_in [] n h = absurd (omega arith)
parent_in (r ∷ rs) n h =
    elim (cases_eq (times_in n r.parts) 0) [
      | inl nothing ↦ let q = parent_in rs n (omega (arith, nothing)) in
          record { of = suc q.of; low = omega (arith, q.low); part = q.part }
      | inr some ↦ record { of = 0; low = omega arith; part = omega (arith, some) }
    ]

-- ---- the parts of a node, in the order of their leaves

module _ (rows : List NodeRow) (ordered : (m : ℕ) → m < length rows → first_of rows m ≤ past_of rows m)
    (leaf_count n : ℕ) (low : n ≤ length rows) where
  in_rest : (m : NodeId) (ps : List Part) (x : ℕ) → (m.0 ≡ x → ⊥) → 0 < times_in x (part.Node m ∷ ps)
      → 0 < times_in x ps
  in_rest m ps x other h =
      let left = subst (λ (t : Bool). 0 < (if t then 1 else 0) + times_in x ps) (ne_eqb m.0 x other) h in
      omega (arith, left)

  pub part_below : (ps : List Part) (x : ℕ) → AreBelow leaf_count n ps → 0 < times_in x ps → x < n
  part_below [] x b h = absurd (omega arith)
  part_below (part.Leaf j ∷ ps) x b h = part_below ps x b.1 h
  part_below (part.Node m ∷ ps) x b h =
      elim (cases_eq m.0 x) [
        | inl same ↦ omega (arith, b.0, same)
        | inr other ↦ part_below ps x b.1 (in_rest m ps x other h)
      ]

  runs_up : (ps : List Part) (f p : ℕ) → AreBelow leaf_count n ps → Runs rows ps f p → f ≤ p
  runs_up [] f p b r = omega (arith, r)
  runs_up (part.Leaf j ∷ ps) f p b r = omega (arith, runs_up ps (f + 1) p b.1 r.1)
  runs_up (part.Node m ∷ ps) f p b r =
      omega (arith, r.0, ordered m.0 (omega (arith, b.0, low)), runs_up ps (past_of rows m.0) p b.1 r.1)

  pub part_inside : (ps : List Part) (x f p : ℕ) → AreBelow leaf_count n ps → Runs rows ps f p → 0 < times_in x ps
      → (f ≤ first_of rows x) × (past_of rows x ≤ p)
  part_inside [] x f p b r h = absurd (omega arith)
  part_inside (part.Leaf j ∷ ps) x f p b r h =
      let rest = part_inside ps x (f + 1) p b.1 r.1 h in
      (omega (arith, rest.0), rest.1)
  part_inside (part.Node m ∷ ps) x f p b r h =
      elim (cases_eq m.0 x) [
        | inl same ↦ subst (λ y. (f ≤ first_of rows y) × (past_of rows y ≤ p)) same
            (omega (arith, r.0), runs_up ps (past_of rows m.0) p b.1 r.1)
        | inr other ↦ let rest = part_inside ps x (past_of rows m.0) p b.1 r.1 (in_rest m ps x other h) in
            (omega (arith, r.0, ordered m.0 (omega (arith, b.0, low)), rest.0), rest.1)
      ]

  -- one of them at most has a leaf
  pub one_part : (i : ℕ) (ps : List Part) (x y f p : ℕ) → AreBelow leaf_count n ps → Runs rows ps f p
      → 0 < times_in x ps → 0 < times_in y ps → HasLeaf rows i x → HasLeaf rows i y → x ≡ y
  one_part i [] x y f p b r hx hy ax ay = absurd (omega arith)
  one_part i (part.Leaf j ∷ ps) x y f p b r hx hy ax ay = one_part i ps x y (f + 1) p b.1 r.1 hx hy ax ay
  one_part i (part.Node m ∷ ps) x y f p b r hx hy ax ay =
      let later : (z : ℕ) → (m.0 ≡ z → ⊥) → 0 < times_in z (part.Node m ∷ ps) → past_of rows m.0 ≤ first_of rows z =
      λ z other h. (part_inside ps z (past_of rows m.0) p b.1 r.1 (in_rest m ps z other h)).0 in
      elim (cases_eq m.0 x) [
        | inl here ↦ elim (cases_eq m.0 y) [
          | inl too ↦ sym here ∙ too
          | inr other ↦ absurd (omega (arith, ap (past_of rows) here, later y other hy, ax.1, ay.0))
        ]
        | inr other ↦ elim (cases_eq m.0 y) [
          | inl there ↦ absurd (omega (arith, ap (past_of rows) there, later x other hx, ay.1, ax.0))
          | inr more ↦ one_part i ps x y (past_of rows m.0) p b.1 r.1 (in_rest m ps x other hx)
              (in_rest m ps y more hy) ax ay
        ]
      ]

  -- the leaf where the parts from the k-th on begin
  pub record Begins (ps : List Part) (k p : ℕ) : Type 0 where
    pub at : ℕ
    pub runs : Runs rows (drop k ps) at p

  pub begins : (ps : List Part) (k f p : ℕ) → Runs rows ps f p → k ≤ length ps → Begins ps k p
  begins ps zero f p r le = record { at = f; runs = r }
  begins [] (suc k) f p r le = absurd (omega arith)
  begins (part.Leaf j ∷ ps) (suc k) f p r le =
      let b = begins ps k (f + 1) p r.1 (omega arith) in record { at = b.at; runs = b.runs }
  begins (part.Node m ∷ ps) (suc k) f p r le =
      let b = begins ps k (past_of rows m.0) p r.1 (omega arith) in record { at = b.at; runs = b.runs }

  pub one_start : (ps : List Part) (f g p : ℕ) → Runs rows ps f p → Runs rows ps g p → f ≡ g
  one_start [] f g p r s = r ∙ sym s
  one_start (part.Leaf j ∷ ps) f g p r s = sym r.0 ∙ s.0
  one_start (part.Node m ∷ ps) f g p r s = sym r.0 ∙ s.0

  runs_on : (ps : List Part) (k f a p : ℕ) → AreBelow leaf_count n ps → Runs rows ps f p → Runs rows (drop k ps) a p
      → k ≤ length ps → f ≤ a
  runs_on ps zero f a p b r s le = omega (arith, one_start ps f a p r s)
  runs_on [] (suc k) f a p b r s le = absurd (omega arith)
  runs_on (part.Leaf j ∷ ps) (suc k) f a p b r s le =
      omega (arith, runs_on ps k (f + 1) a p b.1 r.1 s (omega arith))
  runs_on (part.Node m ∷ ps) (suc k) f a p b r s le =
      omega (
        arith,
        r.0,
        ordered m.0 (omega (arith, b.0, low)),
        runs_on ps k (past_of rows m.0) a p b.1 r.1 s (omega arith),
      )

  -- The part is the k-th, where those from it on begin at the leaf or before, and those behind it begin behind it.
  pub part_at : (i : ℕ) (ps : List Part) (k : ℕ) (d : Part) (x f a e p : ℕ) → AreBelow leaf_count n ps
      → Runs rows ps f p → k < length ps → 0 < times_in x ps → HasLeaf rows i x → Runs rows (drop k ps) a p → a ≤ i
      → Runs rows (drop (suc k) ps) e p → i < e → get_or ps k d ≡ part.Node (record { 0 = x })
  part_at i [] k d x f a e p b r lt h has s le t more = absurd (omega arith)
  part_at i (part.Leaf j ∷ ps) zero d x f a e p b r lt h has s le t more =
      absurd (omega (arith, (part_inside ps x e p b.1 t h).0, has.0))
  part_at i (part.Leaf j ∷ ps) (suc k) d x f a e p b r lt h has s le t more =
      part_at i ps k d x (f + 1) a e p b.1 r.1 (omega arith) h has s le t more
  part_at i (part.Node m ∷ ps) zero d x f a e p b r lt h has s le t more =
      elim (cases_eq m.0 x) [
        | inl same ↦ ap (λ y. part.Node (record { 0 = y })) same
        | inr other ↦ absurd (omega (arith, (part_inside ps x e p b.1 t (in_rest m ps x other h)).0, has.0))
      ]
  part_at i (part.Node m ∷ ps) (suc k) d x f a e p b r lt h has s le t more =
      elim (cases_eq m.0 x) [
        | inl same ↦ absurd (omega (
          arith,
          ap (past_of rows) same,
          has.1,
          runs_on ps k (past_of rows m.0) a p b.1 r.1 s (omega arith),
        ))
        | inr other ↦ part_at i ps k d x (past_of rows m.0) a e p b.1 r.1 (omega arith) (in_rest m ps x other h) has
            s le t more
      ]

pub times_at : (ps : List Part) (k : ℕ) (d : Part) (m : NodeId) → k < length ps → get_or ps k d ≡ part.Node m
    → 0 < times_in m.0 ps
times_at [] k d m lt e = absurd (omega arith)
times_at (part.Leaf j ∷ ps) zero d m lt e = absurd (cc)
times_at (part.Leaf j ∷ ps) (suc k) d m lt e = times_at ps k d m (omega arith) e
times_at (part.Node x ∷ ps) zero d m lt e =
    let same : x.0 ≡ m.0 = ap node_number e in
    subst (λ (t : Bool). 0 < (if t then 1 else 0) + times_in m.0 ps) (sym (eq-eqb x.0 m.0 same)) (omega arith)
  where
    node_number : Part → ℕ
    node_number (part.Leaf j) = 0
    node_number (part.Node y) = y.0
times_at (part.Node x ∷ ps) (suc k) d m lt e = omega (arith, times_at ps k d m (omega arith) e)

-- ---- a tree

module _ (t : Arena) (tree : IsTree t) where
  parent : (n : ℕ) → n < length t.nodes → (n ≡ t.root → ⊥) → Parent t.nodes n
  parent n lt other =
      parent_in t.nodes n (subst (λ k. 0 < k) (sym (tree.once n lt ∙ ap (λ (b : Bool). if b then 0 else 1)
      (ne_eqb n t.root other))) (omega arith))

  higher : (n : ℕ) (q : Parent t.nodes n) → n < q.of
  higher n q = part_below t.nodes tree.ordered (length t.leaves) q.of (omega (arith, q.low)) (parts_of t.nodes q.of) n
      (tree.below q.of q.low) q.part

  -- no node stands behind the root
  root_last_by : (k n : ℕ) → n < length t.nodes → length t.nodes ≤ n + k → n ≤ t.root
  root_last_by zero n lt le = absurd (omega arith)
  root_last_by (suc k) n lt le =
      elim (cases_eq n t.root) [
        | inl same ↦ omega (arith, same)
        | inr other ↦ let q = parent n lt other in
            omega (arith, higher n q, root_last_by k q.of q.low (omega (arith, higher n q)))
      ]

  pub root_last : (n : ℕ) → n < length t.nodes → n ≤ t.root
  root_last n lt = root_last_by (length t.nodes) n lt (omega arith)

  module _ (i : ℕ) where
    -- what has a leaf is in what has it
    upward : (p x : ℕ) → p < length t.nodes → 0 < times_in x (parts_of t.nodes p) → HasLeaf t.nodes i x
        → HasLeaf t.nodes i p
    upward p x lt h has =
        let in_it = part_inside t.nodes tree.ordered (length t.leaves) p (omega arith) (parts_of t.nodes p) x
        (first_of t.nodes p) (past_of t.nodes p) (tree.below p lt) (tree.spans p lt) h in
        (omega (arith, in_it.0, has.0), omega (arith, in_it.1, has.1))

    -- before p, its part that has the leaf is the last node that has it
    last_below : (k p c x : ℕ) → length t.nodes ≤ x + k → p < length t.nodes → 0 < times_in c (parts_of t.nodes p)
        → HasLeaf t.nodes i c → x < p → HasLeaf t.nodes i x → x ≤ c
    last_below zero p c x le lt h hc less hx = absurd (omega arith)
    last_below (suc k) p c x le lt h hc less hx =
        elim (cases_eq x t.root) [
          | inl same ↦ absurd (omega (arith, same, root_last p lt))
          | inr other ↦ let q = parent x (omega arith) other in
              let more = higher x q in
              let hq = upward q.of x q.low q.part hx in
              elim (cases_order q.of p) [
                | inl here ↦ omega (
                  arith,
                  one_part t.nodes tree.ordered (length t.leaves) p (omega arith) i
                      (parts_of t.nodes p) x c (first_of t.nodes p) (past_of t.nodes p) (tree.below p lt)
                      (tree.spans p lt) (subst (λ y. 0 < times_in x (parts_of t.nodes y)) here q.part) h hx hc,
                )
                | inr o ↦ elim o [
                  | inl lower ↦ omega (arith, more, last_below k p c q.of (omega (arith, more)) lt h hc lower hq)
                  | inr above ↦ absurd (omega (
                    arith,
                    less,
                    last_below k q.of x p (omega (arith, less)) q.low q.part hx
                        above (upward p c lt h hc),
                  ))
                ]
              ]
        ]

    -- and where none of its parts is a node that has it, no node before p has it
    none_below : (k p x : ℕ) → length t.nodes ≤ x + k → p < length t.nodes → HasLeaf t.nodes i p
        → ((c : ℕ) → 0 < times_in c (parts_of t.nodes p) → HasLeaf t.nodes i c → ⊥) → x < p → HasLeaf t.nodes i x → ⊥
    none_below zero p x le lt hp never less hx = absurd (omega arith)
    none_below (suc k) p x le lt hp never less hx =
        elim (cases_eq x t.root) [
          | inl same ↦ absurd (omega (arith, same, root_last p lt))
          | inr other ↦ let q = parent x (omega arith) other in
              let more = higher x q in
              let hq = upward q.of x q.low q.part hx in
              elim (cases_order q.of p) [
                | inl here ↦ never x (subst (λ y. 0 < times_in x (parts_of t.nodes y)) here q.part) hx
                | inr o ↦ elim o [
                  | inl lower ↦ none_below k p q.of (omega (arith, more)) lt hp never lower hq
                  | inr above ↦ absurd (omega (
                    arith,
                    less,
                    last_below k q.of x p (omega (arith, less)) q.low q.part hx
                        above hp,
                  ))
                ]
              ]
        ]

    -- ---- rows passed over

    not_around : (x : ℕ) → (HasLeaf t.nodes i x → ⊥) → is_around i (row_at t.nodes x) ≡ false
    not_around x never = false_from_ne_true (is_around i (row_at t.nodes x)) (λ e.
        let kind = (row_at t.nodes x).kind in
        let early = nat_lt (first_of t.nodes x) i in
        let late = nat_lt i (past_of t.nodes x) in
        let front = and_parts (((kind == MAP) || (kind == SEQ)) && early) late e in
        let before = (and_parts ((kind == MAP) || (kind == SEQ)) early front.0).1 in
        never (omega (arith, ltb-true (first_of t.nodes x) i before), ltb-true i (past_of t.nodes x) front.1))

    skip : (k a b : ℕ) → a + k ≡ b → b ≤ length t.nodes → ((x : ℕ) → a ≤ x → x < b → HasLeaf t.nodes i x → ⊥)
        → opening_around i (drop a t.nodes) ≡ opening_around i (drop b t.nodes)
    skip zero a b e le never = ap (λ n. opening_around i (drop n t.nodes)) (omega (arith, e))
    skip (suc k) a b e le never =
        around_later i t.nodes a (omega (arith, e)) (not_around a (λ has. never a (omega arith) (omega (arith, e)) has))
        ∙ skip k (a + 1) b (omega (arith, e)) le (λ x low high has. never x (omega arith) high has)

    -- ---- the part of node n that has the leaf

    module _ (n : ℕ) (lt : n < length t.nodes) (hn : HasLeaf t.nodes i n) (k : ℕ) (d : Part) (a b : ℕ)
        (inside : k < length (parts_of t.nodes n))
        (here : Runs t.nodes (drop k (parts_of t.nodes n)) a (past_of t.nodes n)) (le : a ≤ i)
        (behind : Runs t.nodes (drop (k + 1) (parts_of t.nodes n)) b (past_of t.nodes n)) (more : i < b) where
      ahead : (p : Part) → get_or (parts_of t.nodes n) k d ≡ p
          → Runs t.nodes (p ∷ drop (k + 1) (parts_of t.nodes n)) a (past_of t.nodes n)
      ahead p e =
          let one : suc k ≡ k + 1 = omega arith in
          subst (λ qs. Runs t.nodes qs a (past_of t.nodes n))
          (drop-cons (parts_of t.nodes n) k d inside ∙ (ap (λ x. x ∷ drop (suc k) (parts_of t.nodes n)) e
          ∙ ap (λ z. p ∷ drop z (parts_of t.nodes n)) one)) here

      pub node_has : (m : NodeId) → get_or (parts_of t.nodes n) k d ≡ part.Node m → HasLeaf t.nodes i m.0
      node_has m e =
          let runs = ahead (part.Node m) e in
          let same = one_start t.nodes tree.ordered (length t.leaves) n (omega arith)
          (drop (k + 1) (parts_of t.nodes n)) (past_of t.nodes m.0) b (past_of t.nodes n) runs.1 behind in
          (omega (arith, runs.0, le), omega (arith, same, more))

      pub node_next : (m : NodeId) → get_or (parts_of t.nodes n) k d ≡ part.Node m
          → opening_around i (drop (m.0 + 1) t.nodes) ≡ opening_around i (drop n t.nodes)
      node_next m e =
          let once = times_at (parts_of t.nodes n) k d m inside e in
          let low = part_below t.nodes tree.ordered (length t.leaves) n (omega arith) (parts_of t.nodes n) m.0
          (tree.below n lt) once in
          skip (n - (m.0 + 1)) (m.0 + 1) n (omega (arith, low)) (omega arith) (λ x from to has.
          absurd (omega (arith, from, last_below (length t.nodes) n m.0 x (omega arith) lt once (node_has m e) to has)))

      pub leaf_next : (j : ℕ) → get_or (parts_of t.nodes n) k d ≡ part.Leaf j
          → opening_around i t.nodes ≡ opening_around i (drop n t.nodes)
      leaf_next j e =
          let one : k + 1 ≡ suc k = omega arith in
          skip n 0 n (omega arith) (omega arith) (λ x from to has.
          none_below (length t.nodes) n x (omega arith) lt hn
          (λ c once hc. is_leaf c (part_at t.nodes tree.ordered (length t.leaves) n (omega arith) i (parts_of t.nodes n)
          k d c (first_of t.nodes n) a b (past_of t.nodes n) (tree.below n lt) (tree.spans n lt) inside once hc here le
          (subst (λ z. Runs t.nodes (drop z (parts_of t.nodes n)) b (past_of t.nodes n)) one behind) more))
          to has)
        where
          is_leaf : (c : ℕ) → get_or (parts_of t.nodes n) k d ≡ part.Node (record { 0 = c }) → ⊥
          is_leaf c is = absurd (cc)

-- ---- the search by halves

-- the parts of a node from a position on begin at a leaf up to this one, and behind this one
abbrev pub BeginUpTo : List NodeRow → ℕ → ℕ → ℕ → Type 0
BeginUpTo rows i n k = (a : ℕ) × (a ≤ i) × Runs rows (drop k (parts_of rows n)) a (past_of rows n)

abbrev pub BeginBehind : List NodeRow → ℕ → ℕ → ℕ → Type 0
BeginBehind rows i n k = (b : ℕ) × (i < b) × Runs rows (drop k (parts_of rows n)) b (past_of rows n)

pub some_parts : (rows : List NodeRow) (ps : List Part) (f p : ℕ) → Runs rows ps f p → f < p → 0 < length ps
some_parts rows [] f p r less = absurd (omega (arith, r))
some_parts rows (q ∷ ps) f p r less = omega arith

module _ (t : Arena) (tree : IsTree t) (n : ℕ) (lt : n < length t.nodes) (ps : List Part)
    (same : ps ≡ parts_of t.nodes n) where
  pub all_behind : (i : ℕ) → i < past_of t.nodes n → BeginBehind t.nodes i n (length ps)
  all_behind i less = (
    past_of t.nodes n,
    less,
    subst (λ qs. Runs t.nodes qs (past_of t.nodes n) (past_of t.nodes n))
        (sym (drop_all (length ps) (parts_of t.nodes n) (omega (arith, ap length same)))) refl,
  )

  pub from_first : (i : ℕ) → first_of t.nodes n ≤ i → BeginUpTo t.nodes i n 0
  from_first i le = (first_of t.nodes n, le, tree.spans n lt)

  module _ (k : ℕ) (d : Part) (low : k < length ps) where
    from_here : (p : Part) → get_or ps k d ≡ p → drop k (parts_of t.nodes n) ≡ p ∷ drop (suc k) (parts_of t.nodes n)
    from_here p e = subst (λ qs. drop k qs ≡ p ∷ drop (suc k) qs) same
        (drop-cons ps k d low ∙ ap (λ x. x ∷ drop (suc k) ps) e)

    start : Begins t.nodes tree.ordered (length t.leaves) n (omega arith) (parts_of t.nodes n) k (past_of t.nodes n)
    start = begins t.nodes tree.ordered (length t.leaves) n (omega arith) (parts_of t.nodes n) k (first_of t.nodes n)
        (past_of t.nodes n) (tree.spans n lt) (omega (arith, ap length same))

    pub leaf_start : (j : ℕ) → get_or ps k d ≡ part.Leaf j
        → Runs t.nodes (drop k (parts_of t.nodes n)) j (past_of t.nodes n)
    leaf_start j e =
        let runs = subst (λ qs. Runs t.nodes qs start.at (past_of t.nodes n)) (from_here (part.Leaf j) e) start.runs in
        subst (λ x. Runs t.nodes (drop k (parts_of t.nodes n)) x (past_of t.nodes n)) (sym runs.0) start.runs

    pub node_start : (m : NodeId) → get_or ps k d ≡ part.Node m
        → Runs t.nodes (drop k (parts_of t.nodes n)) (first_of t.nodes m.0) (past_of t.nodes n)
    node_start m e =
        let runs = subst (λ qs. Runs t.nodes qs start.at (past_of t.nodes n)) (from_here (part.Node m) e) start.runs in
        subst (λ x. Runs t.nodes (drop k (parts_of t.nodes n)) x (past_of t.nodes n)) (sym runs.0) start.runs

-- ---- the root

pub whole_has : (t : Arena) → IsTree t → (i r : ℕ) → i < length t.leaves → r ≡ t.root → HasLeaf t.nodes i r
whole_has t tree i r less e =
    subst (HasLeaf t.nodes i) (sym e) (omega (arith, tree.whole.0), omega (arith, tree.whole.1, less))

pub none_behind_root : (t : Arena) → IsTree t → (i r : ℕ) → r ≡ t.root
    → None ≡ opening_around i (drop (r + 1) t.nodes)
none_behind_root t tree i r e =
    let last = root_last t tree (length t.nodes - 1) (omega (arith, tree.root)) in
    ap (opening_around i) (sym (drop_all (r + 1) t.nodes (omega (arith, e, last))))

-- ---- where the search ends

module _ (t : Arena) (tree : IsTree t) (i n : ℕ) (lt : n < length t.nodes) (has : HasLeaf t.nodes i n) (ps : List Part)
    (same : ps ≡ parts_of t.nodes n) (k to : ℕ) (order : k < to) (inside : to ≤ length ps)
    (before : BeginUpTo t.nodes i n k) (behind : BeginBehind t.nodes i n to) (close : to ≤ k + 1) (d : Part) where
  low : k < length (parts_of t.nodes n)
  low = omega (arith, order, inside, ap length same)

  behind_it : Runs t.nodes (drop (k + 1) (parts_of t.nodes n)) behind.0 (past_of t.nodes n)
  behind_it =
      let next : to ≡ k + 1 = omega (arith, order, close) in
      subst (λ z. Runs t.nodes (drop z (parts_of t.nodes n)) behind.0 (past_of t.nodes n)) next behind.2

  the_same : (p : Part) → get_or ps k d ≡ p → get_or (parts_of t.nodes n) k d ≡ p
  the_same p e = subst (λ xs. get_or xs k d ≡ p) same e

  pub end_below : (m : NodeId) → get_or ps k d ≡ part.Node m → m.0 < n
  end_below m e =
      part_below t.nodes tree.ordered (length t.leaves) n (omega arith) (parts_of t.nodes n) m.0 (tree.below n lt)
      (times_at (parts_of t.nodes n) k d m low (the_same (part.Node m) e))

  pub end_has : (m : NodeId) → get_or ps k d ≡ part.Node m → HasLeaf t.nodes i m.0
  end_has m e =
      node_has t tree i n lt has k d before.0 behind.0 low before.2 before.1 behind_it behind.1 m
      (the_same (part.Node m) e)

  pub end_node : (m : NodeId) → get_or ps k d ≡ part.Node m
      → opening_around i (drop (m.0 + 1) t.nodes) ≡ opening_around i (drop n t.nodes)
  end_node m e =
      node_next t tree i n lt has k d before.0 behind.0 low before.2 before.1 behind_it behind.1 m
      (the_same (part.Node m) e)

  pub end_leaf : (j : ℕ) → get_or ps k d ≡ part.Leaf j → opening_around i t.nodes ≡ opening_around i (drop n t.nodes)
  end_leaf j e =
      leaf_next t tree i n lt has k d before.0 behind.0 low before.2 before.1 behind_it behind.1 j
      (the_same (part.Leaf j) e)
