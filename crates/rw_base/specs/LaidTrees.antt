-- The rows of a forest are a tree, and stand for the forest.
use Rattle.std.proofs.Common.{◌≡◌, ℕ, zero, suc, ◌+◌, ◌-◌, ◌^◌, ◌<◌, ◌≤◌, ◌==◌, List, [], ◌∷◌, ◌++◌, length, get_or}
use Rattle.std.proofs.Common.{refl, sym, ap, subst, ◌∙◌, append_assoc, append-nil, length-append, arith, inl, inr}
use Rattle.std.proofs.Common.{◌⊎◌}
use Rattle.std.specs.Prelude.{slice_get, Some, if◌then◌else◌}
use Rattle.std.proofs.lemmas.List.{get_or_at}
use Rattle.std.proofs.lemmas.Bool.{cases_order, cases_eq, eq-eqb, ne_eqb}
use Rattle.rw_base.specs.declared.tree.Leaf.{Leaf}
use Rattle.rw_base.specs.declared.tree.Part.{Part}
use Rattle.rw_base.specs.declared.tree.Part.TheVariants as part
use Rattle.rw_base.specs.declared.tree.NodeRow.{NodeRow}
use Rattle.rw_base.specs.Arena.{IsTree, Tile, AreBelow, Runs, leaf_at, row_at, no_row, kind_of, first_of}
use Rattle.rw_base.specs.Arena.{past_of, parts_of, times_in, times, end_of}
use Rattle.rw_base.specs.Trees.{none, leaf, node, Forest, Numbered, leaves_in, width, size, relabel, numbers}
use Rattle.rw_base.specs.RowLaws.{value_at}
use Rattle.rw_base.specs.Laid.{parts_from, rows_from, laid_rows, laid, with_numbers, KindAndTrees, no_trees, trees_by}
use Rattle.rw_base.specs.Laid.{kind_and_trees, kids_of, forest_of}
use Rattle.rw_base.specs.LaidLaws.{row_from, length-rows, length-leaves_in}

-- without their numbers they are the trees
pub without_numbers : (n : ℕ) (f : Forest) → relabel (λ _. tt) (λ i. i) (with_numbers n f) ≡ f
unfolding with_numbers
without_numbers n none = refl
without_numbers n (leaf i f) = ap (leaf i) (without_numbers n f)
without_numbers n (node _ k kids f) =
    ap (λ x. node tt k x (relabel (λ _. tt) (λ i. i) (with_numbers (n + (size kids + 1)) f))) (without_numbers n kids)
    ∙ ap (node tt k kids) (without_numbers (n + (size kids + 1)) f)

-- ---- leaves that are numbered one after another

Count : ℕ → List ℕ → Type 0
Count at [] = Unit {0}
Count at (i ∷ is) = (i ≡ at) × Count (at + 1) is

numbers_count : (at n : ℕ) → Count at (numbers at n)
unfolding Count
numbers_count at zero = tt
numbers_count at (suc n) = (refl, numbers_count (at + 1) n)

count_front : (at : ℕ) (is js : List ℕ) → Count at (is ++ js) → Count at is
unfolding Count
count_front at [] js c = tt
count_front at (i ∷ is) js c = (c.0, count_front (at + 1) is js c.1)

count_back : (at : ℕ) (is js : List ℕ) → Count at (is ++ js) → Count (at + length is) js
unfolding Count
count_back at [] js c = let same : at ≡ at + 0 = omega arith in subst (λ a. Count a js) same c
count_back at (i ∷ is) js c = let same : (at + 1) + length is ≡ at + suc (length is) =
    omega arith in subst (λ a. Count a js) same (count_back (at + 1) is js c.1)

-- a forest whose leaves are numbered from one on
IsCounted : ℕ → Forest → Type 0
IsCounted at f = Count at (leaves_in f)

counted_kids : (at k : ℕ) (kids f : Forest) → IsCounted at (node tt k kids f) → IsCounted at kids
unfolding IsCounted
counted_kids at k kids f c = count_front at (leaves_in kids) (leaves_in f) c

counted_rest : (at k : ℕ) (kids f : Forest) → IsCounted at (node tt k kids f) → IsCounted (at + width kids) f
unfolding IsCounted
counted_rest at k kids f c = subst (λ n. Count (at + n) (leaves_in f)) (length-leaves_in kids)
    (count_back at (leaves_in kids) (leaves_in f) c)

-- ---- rows that stand among others

-- The rows of a forest stand among these, behind the first n.
record Stand (rows : List NodeRow) (n at : ℕ) (f : Forest) : Type 0 where
  before : List NodeRow
  behind : List NodeRow
  long : length before ≡ n
  all : rows ≡ before ++ (rows_from n at f ++ behind)

module _ (rows : List NodeRow) (n at k : ℕ) (kids f : Forest) (s : Stand rows n at (node tt k kids f)) where
  abbrev row : NodeRow
  row = row_from n at k kids

  abbrev last : List NodeRow
  last = rows_from (n + (size kids + 1)) (at + width kids) f

  split : rows ≡ s.before ++ (rows_from n at kids ++ (row ∷ (last ++ s.behind)))
  unfolding rows_from
  split = s.all ∙ ap (λ w. s.before ++ w) (append_assoc (rows_from n at kids) (row ∷ last) s.behind)

  stand_kids : Stand rows n at kids
  stand_kids = record { before = s.before; behind = row ∷ (last ++ s.behind); long = s.long; all = split }

  front_long : length (s.before ++ rows_from n at kids) ≡ n + size kids
  front_long = omega (arith, length-append s.before (rows_from n at kids), length-rows n at kids, s.long)

  at_seam : rows ≡ (s.before ++ rows_from n at kids) ++ (row ∷ (last ++ s.behind))
  at_seam = split ∙ sym (append_assoc s.before (rows_from n at kids) (row ∷ (last ++ s.behind)))

  stand_rest : Stand rows (n + (size kids + 1)) (at + width kids) f
  stand_rest = record {
    before = (s.before ++ rows_from n at kids) ++ row ∷ [];
    behind = s.behind;
    long = omega (arith, length-append (s.before ++ rows_from n at kids) (row ∷ []), front_long);
    all = at_seam ∙ sym (append_assoc (s.before ++ rows_from n at kids) (row ∷ []) (last ++ s.behind));
  }

  -- the node's own row
  stand_row : row_at rows (n + size kids) ≡ row
  unfolding row_at
  stand_row = ap (λ rs. get_or rs (n + size kids) no_row) at_seam
      ∙ get_or_at (s.before ++ rows_from n at kids) row (last ++ s.behind) no_row (n + size kids) front_long

  stand_get : slice_get rows (n + size kids) ≡ Some row
  stand_get = ap (λ rs. slice_get rs (n + size kids)) at_seam
      ∙ (ap (slice_get ((s.before ++ rows_from n at kids) ++ (row ∷ (last ++ s.behind)))) (sym front_long)
      ∙ seam (s.before ++ rows_from n at kids) (last ++ s.behind) row)
    where
      seam : (xs ys : List NodeRow) (r : NodeRow) → slice_get (xs ++ r ∷ ys) (length xs) ≡ Some r
      seam [] ys r = refl
      seam (x ∷ xs) ys r = seam xs ys r

stand_leaf : (rows : List NodeRow) (n at i : ℕ) (f : Forest) → Stand rows n at (leaf i f) → Stand rows n (at + 1) f
unfolding rows_from
stand_leaf rows n at i f s = record { before = s.before; behind = s.behind; long = s.long; all = s.all }

-- ---- each row

pub record IsGood (rows : List NodeRow) (leaf_count m : ℕ) : Type 0 where
  pub below : AreBelow leaf_count m (parts_of rows m)
  pub ordered : first_of rows m ≤ past_of rows m
  pub inside : past_of rows m ≤ leaf_count
  pub spans : Runs rows (parts_of rows m) (first_of rows m) (past_of rows m)

parts_below : (leaf_count n at top : ℕ) (f : Forest) → IsCounted at f → at + width f ≤ leaf_count → n + size f ≤ top
    → AreBelow leaf_count top (parts_from n f)
unfolding parts_from IsCounted Count
parts_below leaf_count n at top none c w s = tt
parts_below leaf_count n at top (leaf i f) c w s =
    (omega (arith, c.0), parts_below leaf_count n (at + 1) top f c.1 (omega arith) s)
parts_below leaf_count n at top (node _ k kids f) c w s = (
  omega arith,
  parts_below leaf_count (n + (size kids + 1)) (at + width kids) top f (counted_rest at k kids f c)
      (omega arith) (omega arith),
)

parts_run : (rows : List NodeRow) (n at : ℕ) (f : Forest) → Stand rows n at f → IsCounted at f
    → Runs rows (parts_from n f) at (at + width f)
unfolding parts_from IsCounted Count
parts_run rows n at none s c = omega arith
parts_run rows n at (leaf i f) s c =
    let same : (at + 1) + width f ≡ at + (1 + width f) = omega arith in (
      c.0,
      subst (Runs rows (parts_from n f) (at + 1)) same
          (parts_run rows n (at + 1) f (stand_leaf rows n at i f s) c.1),
    )
parts_run rows n at (node _ k kids f) s c =
    let same : (at + width kids) + width f ≡ at + (width kids + width f) = omega arith in
    let here = stand_row rows n at k kids f s in (
      ap (λ (r : NodeRow). r.first) here,
      subst (λ (r : NodeRow). Runs rows (parts_from (n + (size kids + 1)) f) r.past (at + (width kids + width f)))
          (sym here)
          (subst (Runs rows (parts_from (n + (size kids + 1)) f) (at + width kids)) same
          (parts_run rows (n + (size kids + 1)) (at + width kids) f (stand_rest rows n at k kids f s)
          (counted_rest at k kids f c))),
    )

good_row : (rows : List NodeRow) (leaf_count n at k : ℕ) (kids : Forest)
    → row_at rows (n + size kids) ≡ row_from n at k kids → Stand rows n at kids → IsCounted at kids
    → at + width kids ≤ leaf_count → IsGood rows leaf_count (n + size kids)
good_row rows leaf_count n at k kids here s c le =
    let back = sym here in
    record {
      below = subst (λ (r : NodeRow). AreBelow leaf_count (n + size kids) r.parts) back
          (parts_below leaf_count n at (n + size kids) kids c le (omega arith));
      ordered = subst (λ (r : NodeRow). r.first ≤ r.past) back (omega arith);
      inside = subst (λ (r : NodeRow). r.past ≤ leaf_count) back le;
      spans = subst (λ (r : NodeRow). Runs rows r.parts r.first r.past) back (parts_run rows n at kids s c);
    }

rows_good : (rows : List NodeRow) (leaf_count n at : ℕ) (f : Forest) → Stand rows n at f → IsCounted at f
    → at + width f ≤ leaf_count → (m : ℕ) → n ≤ m → m < n + size f → IsGood rows leaf_count m
unfolding IsCounted Count
rows_good rows leaf_count n at none s c le m low high = absurd (omega arith)
rows_good rows leaf_count n at (leaf i f) s c le m low high =
    rows_good rows leaf_count n (at + 1) f (stand_leaf rows n at i f s) c.1 (omega arith) m low high
rows_good rows leaf_count n at (node _ k kids f) s c le m low high =
    let kids_stand = stand_kids rows n at k kids f s in
    let kids_counted = counted_kids at k kids f c in
    let in_kids : (m < n + size kids → IsGood rows leaf_count m) =
    λ lt. rows_good rows leaf_count n at kids kids_stand kids_counted (omega arith) m low lt in
    let in_rest : (n + size kids < m → IsGood rows leaf_count m) =
    λ lt. rows_good rows leaf_count (n + (size kids + 1)) (at + width kids) f (stand_rest rows n at k kids f s)
    (counted_rest at k kids f c) (omega arith) m (omega arith) (omega arith) in
    elim (cases_order m (n + size kids)) [
      | inl same ↦ subst (IsGood rows leaf_count) (sym same)
          (good_row rows leaf_count n at k kids (stand_row rows n at k kids f s) kids_stand kids_counted (omega arith))
      | inr o ↦ elim o [ inl lt ↦ in_kids lt | inr gt ↦ in_rest gt ]
    ]

-- ---- each node is a part once

times_append : (m : ℕ) (xs ys : List NodeRow) → times m (xs ++ ys) ≡ times m xs + times m ys
times_append m [] ys = omega arith
times_append m (r ∷ xs) ys = omega (arith, times_append m xs ys)

-- how often the node m is among the parts of a forest or of its rows
abbrev all_times : ℕ → ℕ → ℕ → Forest → ℕ
all_times m n at f = times m (rows_from n at f) + times_in m (parts_from n f)

is_here : ℕ → ℕ → ℕ
is_here n m = if n == m then 1 else 0

here_once : (m n : ℕ) → m ≡ n → is_here n m ≡ 1
unfolding is_here
here_once m n e = rw (eq-eqb n m (sym e)) refl

not_here : (m n : ℕ) → (m ≡ n → ⊥) → is_here n m ≡ 0
unfolding is_here
not_here m n e = rw (ne_eqb n m (λ q. e (sym q))) refl

node_times : (m n at k : ℕ) (kids f : Forest)
    → all_times m n at (node tt k kids f) ≡ all_times m n at kids +
    (is_here (n + size kids) m + all_times m (n + (size kids + 1)) (at + width kids) f)
unfolding rows_from parts_from is_here
node_times m n at k kids f =
    omega (
      arith,
      times_append m (rows_from n at kids)
          (row_from n at k kids ∷ rows_from (n + (size kids + 1)) (at + width kids) f),
    )

times_outside : (m n at : ℕ) (f : Forest) → (m < n) ⊎ (n + size f ≤ m) → all_times m n at f ≡ 0
unfolding rows_from parts_from
times_outside m n at none h = refl
times_outside m n at (leaf i f) h = times_outside m n (at + 1) f h
times_outside m n at (node _ k kids f) h =
    node_times m n at k kids f ∙ elim h [
      | inl low ↦ omega (
        arith,
        times_outside m n at kids (inl low),
        not_here m (n + size kids)
            (λ e. omega arith),
        times_outside m (n + (size kids + 1)) (at + width kids) f (inl (omega arith)),
      )
      | inr high ↦ omega (
        arith,
        times_outside m n at kids (inr (omega arith)),
        not_here m (n + size kids)
            (λ e. omega arith),
        times_outside m (n + (size kids + 1)) (at + width kids) f (inr (omega arith)),
      )
    ]

times_inside : (m n at : ℕ) (f : Forest) → n ≤ m → m < n + size f → all_times m n at f ≡ 1
unfolding rows_from parts_from
times_inside m n at none low high = absurd (omega arith)
times_inside m n at (leaf i f) low high = times_inside m n (at + 1) f low high
times_inside m n at (node _ k kids f) low high =
    node_times m n at k kids f ∙ elim (cases_order m (n + size kids)) [
      | inl same ↦ omega (
        arith,
        times_outside m n at kids (inr (omega arith)),
        here_once m
            (n + size kids) same,
        times_outside m (n + (size kids + 1)) (at + width kids) f (inl (omega arith)),
      )
      | inr o ↦ elim o [
        | inl lt ↦ omega (
          arith,
          times_inside m n at kids low lt,
          not_here m (n + size kids)
              (λ e. omega arith),
          times_outside m (n + (size kids + 1)) (at + width kids) f (inl (omega arith)),
        )
        | inr gt ↦ omega (
          arith,
          times_outside m n at kids (inr (omega arith)),
          not_here m (n + size kids)
              (λ e. omega arith),
          times_inside m (n + (size kids + 1)) (at + width kids) f (omega arith) (omega arith),
        )
      ]
    ]

-- ---- the rows of one node over all leaves are a tree

module _ (leaves : List Leaf) (k : ℕ) (kids : Forest) where
  laid_stand : Stand (laid_rows k kids) 0 0 (node tt k kids none)
  laid_stand = record { before = []; behind = []; long = refl; all = sym (append-nil (laid_rows k kids)) }

  laid_length : length (laid_rows k kids) ≡ size kids + 1
  laid_length = length-rows 0 0 (node tt k kids none) ∙ omega arith

  laid_root : row_at (laid_rows k kids) (size kids) ≡ row_from 0 0 k kids
  laid_root = let same : 0 + size kids ≡ size kids = omega arith in ap (row_at (laid_rows k kids)) (sym same)
      ∙ stand_row (laid_rows k kids) 0 0 k kids none laid_stand

  module _ (some : 0 < length leaves) (few : length leaves < 2 ^ 32) (tile : Tile 0 leaves)
      (end : (leaf_at leaves (length leaves - 1)).from ≡ end_of (laid leaves k kids))
      (all : leaves_in kids ≡ numbers 0 (length leaves)) (few_nodes : size kids + 1 < 2 ^ 32) where
    length-numbers : (from n : ℕ) → length (numbers from n) ≡ n
    length-numbers from zero = refl
    length-numbers from (suc n) = omega (arith, length-numbers (from + 1) n)

    wide : width kids ≡ length leaves
    wide = sym (length-leaves_in kids) ∙ (ap length all ∙ length-numbers 0 (length leaves))

    laid_counted : IsCounted 0 (node tt k kids none)
    unfolding IsCounted
    laid_counted = subst (Count 0) (sym (append-nil (leaves_in kids) ∙ all)) (numbers_count 0 (length leaves))

    laid_good : (m : ℕ) → m < length (laid_rows k kids) → IsGood (laid_rows k kids) (length leaves) m
    laid_good m lt = rows_good (laid_rows k kids) (length leaves) 0 0 (node tt k kids none) laid_stand laid_counted
        (omega (arith, wide)) m (omega arith) (omega (arith, laid_length))

    laid_once : (m : ℕ) → m < length (laid_rows k kids) → times m (laid_rows k kids) ≡ (if m == size kids then 0 else 1)
    unfolding parts_from is_here
    laid_once m lt =
        let once = times_inside m 0 0 (node tt k kids none) (omega arith) (omega (arith, laid_length)) in
        elim (cases_eq m (size kids)) [
          | inl same ↦ rw (eq-eqb m (size kids) same) (omega (arith, once, here_once m (0 + size kids) (omega arith)))
          | inr other ↦ rw (ne_eqb m (size kids) other)
              (omega (arith, once, not_here m (0 + size kids) (λ e. other (omega arith))))
        ]

    pub laid_is_tree : IsTree (laid leaves k kids)
    laid_is_tree = record {
      some_leaf = some;
      leaf_count = few;
      node_count = omega (arith, laid_length);
      root = omega (arith, laid_length);
      tile = tile;
      empty_end = end;
      below = λ m lt. (laid_good m lt).below;
      ordered = λ m lt. (laid_good m lt).ordered;
      inside = λ m lt. (laid_good m lt).inside;
      spans = λ m lt. (laid_good m lt).spans;
      once = laid_once;
      whole = (ap (λ (r : NodeRow). r.first) laid_root, ap (λ (r : NodeRow). r.past) laid_root ∙ omega (arith, wide));
    }

-- ---- and they stand for the forest

-- the nodes among the parts are those before n
pub NodesBelow : ℕ → List Part → Type 0
NodesBelow n [] = Unit {0}
NodesBelow n (part.Leaf i ∷ ps) = NodesBelow n ps
NodesBelow n (part.Node m ∷ ps) = (m.0 < n) × NodesBelow n ps

pub nodes_below : (leaf_count n : ℕ) (ps : List Part) → AreBelow leaf_count n ps → NodesBelow n ps
unfolding NodesBelow
nodes_below leaf_count n [] b = tt
nodes_below leaf_count n (part.Leaf i ∷ ps) b = nodes_below leaf_count n ps b.1
nodes_below leaf_count n (part.Node m ∷ ps) b = (b.0, nodes_below leaf_count n ps b.1)

parts_nodes : (n top : ℕ) (f : Forest) → n + size f ≤ top → NodesBelow top (parts_from n f)
unfolding NodesBelow parts_from
parts_nodes n top none h = tt
parts_nodes n top (leaf i f) h = parts_nodes n top f h
parts_nodes n top (node _ k kids f) h = (omega arith, parts_nodes (n + (size kids + 1)) top f (omega arith))

trees_by_reads : (n : ℕ) (ps : List Part) → NodesBelow n ps → (f h : ℕ → KindAndTrees) → ((m : ℕ) → m < n → f m ≡ h m)
    → trees_by f ps ≡ trees_by h ps
unfolding NodesBelow
trees_by_reads n [] b f h q = refl
trees_by_reads n (part.Leaf i ∷ ps) b f h q = ap (leaf i) (trees_by_reads n ps b f h q)
trees_by_reads n (part.Node m ∷ ps) b f h q =
    ap (λ (x : KindAndTrees). node m.0 x.0 x.1 (trees_by f ps)) (q m.0 b.0)
    ∙ ap (node m.0 (h m.0).0 (h m.0).1) (trees_by_reads n ps b.1 f h q)

-- a node's kind and trees, by its row
pub kind_and_trees_row : (rows : List NodeRow) (n : ℕ) (r : NodeRow) → slice_get rows n ≡ Some r
    → NodesBelow n r.parts → kind_and_trees rows n ≡ (r.kind, forest_of rows r.parts)
unfolding kind_and_trees forest_of
kind_and_trees_row rows n r at b =
    value_at no_trees (λ j x g. (x.kind, trees_by g x.parts)) rows n r at
    (λ g h q. ap (λ (x : Numbered). (r.kind, x)) (trees_by_reads n r.parts b g h q))

stands : (rows : List NodeRow) (n at : ℕ) (f : Forest) → Stand rows n at f
    → forest_of rows (parts_from n f) ≡ with_numbers n f
unfolding parts_from with_numbers forest_of
stands rows n at none s = refl
stands rows n at (leaf i f) s = ap (leaf i) (stands rows n (at + 1) f (stand_leaf rows n at i f s))
stands rows n at (node _ k kids f) s =
    let rest = forest_of rows (parts_from (n + (size kids + 1)) f) in
    let here : kind_and_trees rows (n + size kids) ≡ (k, forest_of rows (parts_from n kids)) =
    kind_and_trees_row rows (n + size kids) (row_from n at k kids) (stand_get rows n at k kids f s)
    (parts_nodes n (n + size kids) kids (omega arith)) in
    ap (λ (x : KindAndTrees). node (n + size kids) x.0 x.1 rest) here
    ∙ (ap (λ x. node (n + size kids) k x rest) (stands rows n at kids (stand_kids rows n at k kids f s))
    ∙ ap (node (n + size kids) k (with_numbers n kids))
    (stands rows (n + (size kids + 1)) (at + width kids) f (stand_rest rows n at k kids f s)))

-- The parts of a forest stand for it, by its rows.
pub forest_again : (f : Forest) → forest_of (rows_from 0 0 f) (parts_from 0 f) ≡ with_numbers 0 f
forest_again f = stands (rows_from 0 0 f) 0 0 f
    (record { before = []; behind = []; long = refl; all = sym (append-nil (rows_from 0 0 f)) })

-- So the node over a forest has its trees, and its kind.
pub laid_kids : (leaves : List Leaf) (k : ℕ) (kids : Forest)
    → kids_of (laid_rows k kids) (size kids) ≡ with_numbers 0 kids
laid_kids leaves k kids = ap (λ (x : KindAndTrees). x.1) (laid_kind_and_trees leaves k kids)
  where
    laid_kind_and_trees : (leaves : List Leaf) (k : ℕ) (kids : Forest)
        → kind_and_trees (laid_rows k kids) (size kids) ≡ (k, with_numbers 0 kids)
    laid_kind_and_trees leaves k kids =
        let rows = laid_rows k kids in
        let s = laid_stand leaves k kids in
        let number : 0 + size kids ≡ size kids = omega arith in
        ap (kind_and_trees rows) (sym number)
        ∙ (kind_and_trees_row rows (0 + size kids) (row_from 0 0 k kids) (stand_get rows 0 0 k kids none s)
        (parts_nodes 0 (0 + size kids) kids (omega arith))
        ∙ ap (λ (x : Numbered). (k, x)) (stands rows 0 0 kids (stand_kids rows 0 0 k kids none s)))

pub laid_kind : (leaves : List Leaf) (k : ℕ) (kids : Forest) → kind_of (laid_rows k kids) (size kids) ≡ k
laid_kind leaves k kids = ap (λ (r : NodeRow). r.kind) (laid_root leaves k kids)
