-- No node of a tree is twice among its entries, since each stands once in its trees.
use Rattle.std.proofs.Common.{◌≡◌, ℕ, zero, suc, ◌+◌, ◌<◌, ◌≤◌, ◌==◌, Bool, false, List, [], ◌∷◌, ◌++◌, length}
use Rattle.std.proofs.Common.{refl, sym, ap, ◌∙◌, arith, inl, inr}
use Rattle.std.specs.Prelude.{Option, Some, None, if◌then◌else◌}
use Rattle.std.specs.List.{IsDistinct, AllByRecursion}
use Rattle.std.proofs.lemmas.Bool.{cases_eq, cases_order, eq-eqb, ne_eqb}
use Rattle.rw_base.specs.declared.tree.NodeId.{NodeId}
use Rattle.rw_base.specs.declared.tree.NodeRow.{NodeRow}
use Rattle.rw_base.specs.declared.tree.Part.{Part}
use Rattle.rw_base.specs.declared.tree.Part.TheVariants as part
use Rattle.rw_base.specs.Trees.{Numbered, none, leaf, node}
use Rattle.rw_base.specs.Arena.{Arena, IsTree, AreBelow, row_at, kind_of, parts_of, times, times_in}
use Rattle.rw_base.specs.Laid.{kids_of, forest_of}
use Rattle.rw_base.specs.PartLaws.{forest_nil, forest_leaf, forest_node, kids_at, by_nodes}
use Rattle.rw_grammar.specs.Results.{class_in}
use Rattle.yaml_tree.specs.declared.key_path.PathStep.{PathStep}
use Rattle.yaml_tree.specs.Entries.{is_flow_mapping, key_in, with_key, own_entry, entries_in}
use Rattle.yaml_tree.specs.Found.{found_in}
use Rattle.yaml_tree.specs.FoundEntries.{nodes_of, entry_nodes, AreSomeOf, AreDistinct}
use Rattle.yaml_tree.proofs.Around.{part_below}
use Rattle.yaml_tree.proofs.FoundEntries.{nodes_both, nodes_in, nodes_leaf, nodes_node, found_some}

is_it : ℕ → ℕ → ℕ
is_it n x = if n == x then 1 else 0

it_is : (n x : ℕ) → n ≡ x → is_it n x ≡ 1
unfolding is_it
it_is n x e = rw (eq-eqb n x e) refl

it_is_other : (n x : ℕ) → (n ≡ x → ⊥) → is_it n x ≡ 0
unfolding is_it
it_is_other n x e = rw (ne_eqb n x e) refl

-- ---- how often a node stands in a list

count : ℕ → List NodeId → ℕ
count x [] = 0
count x (n ∷ ns) = is_it n.0 x + count x ns

count_both : (x : ℕ) (xs ys : List NodeId) → count x (xs ++ ys) ≡ count x xs + count x ys
unfolding count
count_both x [] ys = omega arith
count_both x (n ∷ xs) ys = omega (arith, count_both x xs ys)

others : (x : NodeId) (ns : List NodeId) → count x.0 ns ≡ 0 → AllByRecursion (λ y. (x.0 == y.0) ≡ false) ns
unfolding count
others x [] h = tt
others x (n ∷ ns) h = (
  ne_eqb x.0 n.0 (λ e. absurd (omega (arith, h, it_is n.0 x.0 (sym e)))),
  others x ns (omega (arith, h)),
)

distinct : (ns : List NodeId) → ((x : ℕ) → count x ns ≤ 1) → AreDistinct ns
unfolding count IsDistinct
distinct [] most = tt
distinct (n ∷ ns) most = (
  others n ns (omega (arith, most n.0, it_is n.0 n.0 refl)),
  distinct ns (λ x. omega (arith, most x)),
)

count_some : (x : ℕ) (xs ys : List NodeId) → AreSomeOf xs ys → count x xs ≤ count x ys
unfolding count
count_some x [] ys s = omega arith
count_some x (n ∷ xs) [] s = absurd s
count_some x (n ∷ xs) (m ∷ ys) s =
    elim s [
      | inl here ↦ omega (arith, ap (λ (y : NodeId). is_it y.0 x) here.0, count_some x xs ys here.1)
      | inr later ↦ omega (arith, count_some x (n ∷ xs) ys later)
    ]

-- ---- how often it stands in trees

many : ℕ → Numbered → ℕ
many x none = 0
many x (leaf l g) = many x g
many x (node n kind kids g) = is_it n x + many x kids + many x g

module _ (class : ℕ → ℕ) (x : ℕ) where
  own_count : (n kind : ℕ) (kids : Numbered) (key : Option ℕ)
      → count x (nodes_of (with_key class n kind kids key)) ≤ is_it n x
  unfolding count
  own_count n kind kids None = omega arith
  own_count n kind kids (Some key) = omega arith

  entries_count : (b : Bool) (g : Numbered) → count x (nodes_in class b g) ≤ many x g
  unfolding count many entries_in
  entries_count b none = omega arith
  entries_count b (leaf l g) = omega (arith, ap (count x) (nodes_leaf class b l g), entries_count b g)
  entries_count b (node n kind kids g) =
      let own = nodes_of (own_entry class b n kind kids) in
      let below = nodes_in class (is_flow_mapping class kind kids) kids in
      omega (
        arith,
        ap (count x) (nodes_node class b n kind kids g),
        count_both x own (below ++ nodes_in class b g),
        count_both x below (nodes_in class b g),
        own_count n kind kids (key_in class b kind kids),
        entries_count (is_flow_mapping class kind kids) kids,
        entries_count b g,
      )

-- ---- part by part

sum : (ℕ → ℕ) → List Part → ℕ
sum f [] = 0
sum f (part.Leaf j ∷ ps) = sum f ps
sum f (part.Node m ∷ ps) = f m.0 + sum f ps

many_in : List NodeRow → ℕ → ℕ → ℕ
many_in rows x n = many x (kids_of rows n)

forest_many : (rows : List NodeRow) (x : ℕ) (ps : List Part)
    → many x (forest_of rows ps) ≡ times_in x ps + sum (many_in rows x) ps
unfolding many sum many_in is_it
forest_many rows x [] = ap (many x) (forest_nil rows)
forest_many rows x (part.Leaf j ∷ ps) = ap (many x) (forest_leaf rows j ps) ∙ forest_many rows x ps
forest_many rows x (part.Node m ∷ ps) =
    omega (arith, ap (many x) (forest_node rows m ps), forest_many rows x ps)

sum_none : (f : ℕ → ℕ) (leaf_count n : ℕ) (ps : List Part) → AreBelow leaf_count n ps → ((m : ℕ) → m < n → f m ≡ 0)
    → sum f ps ≡ 0
unfolding sum
sum_none f leaf_count n [] b h = refl
sum_none f leaf_count n (part.Leaf j ∷ ps) b h = sum_none f leaf_count n ps b.1 h
sum_none f leaf_count n (part.Node m ∷ ps) b h = omega (arith, h m.0 b.0, sum_none f leaf_count n ps b.1 h)

sum_more : (f g : ℕ → ℕ) (p leaf_count n : ℕ) (ps : List Part) → AreBelow leaf_count n ps
    → ((m : ℕ) → m < n → f m ≡ is_it m p + g m) → sum f ps ≡ times_in p ps + sum g ps
unfolding sum is_it
sum_more f g p leaf_count n [] b h = refl
sum_more f g p leaf_count n (part.Leaf j ∷ ps) b h = sum_more f g p leaf_count n ps b.1 h
sum_more f g p leaf_count n (part.Node m ∷ ps) b h = omega (arith, h m.0 b.0, sum_more f g p leaf_count n ps b.1 h)

times_none : (leaf_count n x : ℕ) (ps : List Part) → AreBelow leaf_count n ps → n ≤ x → times_in x ps ≡ 0
unfolding is_it
times_none leaf_count n x [] b le = refl
times_none leaf_count n x (part.Leaf j ∷ ps) b le = times_none leaf_count n x ps b.1 le
times_none leaf_count n x (part.Node m ∷ ps) b le =
    omega (arith, it_is_other m.0 x (λ e. absurd (omega (arith, b.0, e, le))), times_none leaf_count n x ps b.1 le)

-- ---- the one node of which a node is a part

record OnlyParent (rows : List NodeRow) (x : ℕ) : Type 0 where
  of : ℕ
  low : of < length rows
  once : times_in x (parts_of rows of) ≡ 1
  others : (q : ℕ) → (q ≡ of → ⊥) → times_in x (parts_of rows q) ≡ 0

nowhere : (rows : List NodeRow) (x : ℕ) → times x rows ≡ 0 → (q : ℕ) → times_in x (parts_of rows q) ≡ 0
unfolding row_at
nowhere [] x h q = refl
nowhere (r ∷ rs) x h zero = omega (arith, h)
nowhere (r ∷ rs) x h (suc q) = nowhere rs x (omega (arith, h)) q

only_parent : (rows : List NodeRow) (x : ℕ) → times x rows ≡ 1 → OnlyParent rows x
unfolding row_at
only_parent [] x h = absurd (omega (arith, h))
only_parent (r ∷ rs) x h =
    elim (cases_eq (times_in x r.parts) 0) [
      | inl nothing ↦ let q = only_parent rs x (omega (arith, h, nothing)) in
          record { of = suc q.of; low = omega (arith, q.low); once = q.once; others = later r rs x nothing q }
      | inr some ↦ record {
        of = 0;
        low = omega arith;
        once = omega (arith, h, some);
        others = first r rs x (omega (arith, h, some));
      }
    ]
  where
    later : (r : NodeRow) (rs : List NodeRow) (x : ℕ) → times_in x r.parts ≡ 0 → (o : OnlyParent rs x) → (q : ℕ)
        → (q ≡ suc o.of → ⊥) → times_in x (parts_of (r ∷ rs) q) ≡ 0
    later r rs x nothing o zero other = nothing
    later r rs x nothing o (suc q) other = o.others q (λ e. other (ap suc e))

    first : (r : NodeRow) (rs : List NodeRow) (x : ℕ) → times x rs ≡ 0 → (q : ℕ) → (q ≡ 0 → ⊥)
        → times_in x (parts_of (r ∷ rs) q) ≡ 0
    first r rs x nothing zero other = absurd (other refl)
    first r rs x nothing (suc q) other = nowhere rs x nothing q

module _ (t : Arena) (tree : IsTree t) where
  by_parts : (x n : ℕ) → n < length t.nodes
      → many_in t.nodes x n ≡ times_in x (parts_of t.nodes n) + sum (many_in t.nodes x) (parts_of t.nodes n)
  unfolding many_in
  by_parts x n lt = ap (many x) (kids_at t tree n lt) ∙ forest_many t.nodes x (parts_of t.nodes n)

  -- nothing below a node has its number or a higher one
  below_none : (x n : ℕ) → n < length t.nodes → n ≤ x → many_in t.nodes x n ≡ 0
  below_none x = by_nodes (λ n. n < length t.nodes → n ≤ x → many_in t.nodes x n ≡ 0)
      (λ n before lt le. omega (
        arith,
        by_parts x n lt,
        times_none (length t.leaves) n x (parts_of t.nodes n) (tree.below n lt) le,
        sum_none (many_in t.nodes x) (length t.leaves) n (parts_of t.nodes n) (tree.below n lt)
            (λ m less. before m less (omega (arith, less, lt)) (omega (arith, less, le))),
      ))

  -- below a node another stands as often as its parent does there, that node itself counted
  as_parent : (x : ℕ) (p : OnlyParent t.nodes x) (n : ℕ) → n < length t.nodes
      → many_in t.nodes x n ≡ is_it n p.of + many_in t.nodes p.of n
  as_parent x p = by_nodes (λ n. n < length t.nodes → many_in t.nodes x n ≡ is_it n p.of + many_in t.nodes p.of n)
      (λ n before lt. omega (
        arith,
        by_parts x n lt,
        by_parts p.of n lt,
        part_times n,
        sum_more (many_in t.nodes x) (many_in t.nodes p.of) p.of (length t.leaves) n (parts_of t.nodes n)
            (tree.below n lt) (λ m less. before m less (omega (arith, less, lt))),
      ))
    where
      part_times : (n : ℕ) → times_in x (parts_of t.nodes n) ≡ is_it n p.of
      part_times n =
          elim (cases_eq n p.of) [
            | inl same ↦ ap (λ q. times_in x (parts_of t.nodes q)) same ∙ (p.once ∙ sym (it_is n p.of same))
            | inr other ↦ p.others n other ∙ sym (it_is_other n p.of other)
          ]

  -- so each stands at most once
  once_by : (k x : ℕ) → x < length t.nodes → length t.nodes ≤ x + k
      → is_it t.root x + many_in t.nodes x t.root ≤ 1
  once_by zero x lt le = absurd (omega arith)
  once_by (suc k) x lt le =
      elim (cases_eq x t.root) [
        | inl same ↦ omega (arith, it_is t.root x (sym same), below_none x t.root tree.root (omega (arith, same)))
        | inr other ↦ let p = only_parent t.nodes x (tree.once x lt
            ∙ ap (λ (b : Bool). if b then 0 else 1) (ne_eqb x t.root other)) in
            omega (
              arith,
              it_is_other t.root x (λ e. other (sym e)),
              as_parent x p t.root tree.root,
              once_by k p.of p.low (omega (arith, le, higher x p)),
            )
      ]
    where
      higher : (x : ℕ) (p : OnlyParent t.nodes x) → x < p.of
      higher x p = part_below t.nodes tree.ordered (length t.leaves) p.of (omega (arith, p.low))
          (parts_of t.nodes p.of) x (tree.below p.of p.low) (omega (arith, p.once))

  once_in : (x : ℕ) → is_it t.root x + many_in t.nodes x t.root ≤ 1
  once_in x =
      elim (cases_order x t.root) [
        | inl same ↦ once_by (length t.nodes) x (omega (arith, same, tree.root)) (omega arith)
        | inr o ↦ elim o [
          | inl low ↦ once_by (length t.nodes) x (omega (arith, low, tree.root)) (omega arith)
          | inr high ↦ omega (
            arith,
            it_is_other t.root x (λ e. absurd (omega (arith, e, high))),
            below_none x t.root tree.root (omega (arith, high)),
          )
        ]
      ]

  entry_count : (x : ℕ) → count x (entry_nodes t) ≤ 1
  unfolding many_in
  entry_count x =
      let class = class_in t.leaves in
      let kind = kind_of t.nodes t.root in
      let kids = kids_of t.nodes t.root in
      let b = is_flow_mapping class kind kids in
      let own = own_entry class false t.root kind kids in
      omega (
        arith,
        ap (count x) (nodes_both own (entries_in class b kids)),
        count_both x (nodes_of own) (nodes_in class b kids),
        own_count class x t.root kind kids (key_in class false kind kids),
        entries_count class x b kids,
        once_in x,
      )

  pub entries_once : AreDistinct (entry_nodes t)
  entries_once = distinct (entry_nodes t) entry_count

  pub found_once : (bytes : List ℕ) (path : List PathStep) → AreDistinct (found_in bytes path t)
  found_once bytes path =
      distinct (found_in bytes path t) (λ x. omega (
        arith,
        count_some x (found_in bytes path t) (entry_nodes t) (found_some bytes path t),
        entry_count x,
      ))
