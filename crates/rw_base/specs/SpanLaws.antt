-- The leaves below a node are those from its first to before the one behind its last.
use Rattle.std.proofs.Common.{◌≡◌, ℕ, zero, suc, ◌+◌, ◌-◌, ◌<◌, ◌≤◌, List, [], ◌∷◌, ◌++◌, length, sym, ap, ◌∙◌, arith}
use Rattle.rw_base.specs.declared.tree.Part.{Part}
use Rattle.rw_base.specs.declared.tree.Part.TheVariants as part
use Rattle.rw_base.specs.Arena.{Arena, IsTree, first_of, past_of, parts_of}
use Rattle.rw_base.specs.Trees.{leaves_in, numbers}
use Rattle.rw_base.specs.Laid.{kids_of, forest_of}
use Rattle.rw_base.specs.PartLaws.{forest_nil, forest_leaf, forest_node, kids_at, by_nodes}
use Rattle.rw_base.specs.NewText.{join_parts}
use Rattle.rw_base.specs.Joins.{hold_all, joined_run}

numbers_append : (a m n : ℕ) → numbers a m ++ numbers (a + m) n ≡ numbers a (m + n)
numbers_append a zero n = ap (λ k. numbers k n) (omega arith) ∙ ap (numbers a) (omega arith)
numbers_append a (suc m) n =
    let there : a + suc m ≡ (a + 1) + m = omega arith in
    let all : suc m + n ≡ suc (m + n) = omega arith in
    ap (λ k. a ∷ (numbers (a + 1) m ++ numbers k n)) there
    ∙ (ap (λ ns. a ∷ ns) (numbers_append (a + 1) m n) ∙ ap (numbers a) (sym all))

numbers_meet : (a b c : ℕ) → a ≤ b → b ≤ c → numbers a (b - a) ++ numbers b (c - b) ≡ numbers a (c - a)
numbers_meet a b c ab bc =
    let there : b ≡ a + (b - a) = omega arith in
    let all : (b - a) + (c - b) ≡ c - a = omega arith in
    ap (λ k. numbers a (b - a) ++ numbers k (c - b)) there ∙ (numbers_append a (b - a) (c - b) ∙ ap (numbers a) all)

module _ (t : Arena) (tree : IsTree t) where
  joined_leaves : (ps : List Part)
      → leaves_in (forest_of t.nodes ps) ≡ join_parts (λ i. i ∷ []) (λ m. leaves_in (kids_of t.nodes m)) ps
  joined_leaves [] = ap leaves_in (forest_nil t.nodes)
  joined_leaves (part.Leaf i ∷ ps) = ap leaves_in (forest_leaf t.nodes i ps) ∙ ap (λ w. i ∷ w) (joined_leaves ps)
  joined_leaves (part.Node m ∷ ps) = ap leaves_in (forest_node t.nodes m ps)
      ∙ ap (λ w. leaves_in (kids_of t.nodes m.0) ++ w) (joined_leaves ps)

  one_number : (i : ℕ) → i ∷ [] ≡ numbers i ((i + 1) - i)
  one_number i = let one : (i + 1) - i ≡ 1 = omega arith in sym (ap (numbers i) one)

  no_number : (a : ℕ) → numbers a (a - a) ≡ []
  no_number a = let none : a - a ≡ 0 = omega arith in ap (numbers a) none

  pub kids_leaves : (n : ℕ) → n < length t.nodes
      → leaves_in (kids_of t.nodes n) ≡ numbers (first_of t.nodes n) (past_of t.nodes n - first_of t.nodes n)
  kids_leaves = by_nodes (λ n. n < length t.nodes
      → leaves_in (kids_of t.nodes n) ≡ numbers (first_of t.nodes n) (past_of t.nodes n - first_of t.nodes n))
      (λ n below lt.
      ap leaves_in (kids_at t tree n lt) ∙ (joined_leaves (parts_of t.nodes n)
      ∙ joined_run t tree (λ a b. numbers a (b - a)) (λ i. i ∷ []) (λ m. leaves_in (kids_of t.nodes m)) no_number
      (λ a b c ab bc _. numbers_meet a b c ab bc)
      n (parts_of t.nodes n) (first_of t.nodes n) (past_of t.nodes n) (omega arith) (tree.inside n lt)
      (tree.below n lt) (tree.spans n lt)
      (hold_all (length t.leaves) n (λ i. i ∷ [] ≡ numbers i ((i + 1) - i))
      (λ m. leaves_in (kids_of t.nodes m) ≡ numbers (first_of t.nodes m) (past_of t.nodes m - first_of t.nodes m))
      (parts_of t.nodes n) (tree.below n lt) (λ i _. one_number i) (λ m g. below m g (omega arith)))))

  -- the root's are all of them
  pub root_leaves : leaves_in (kids_of t.nodes t.root) ≡ numbers 0 (length t.leaves)
  root_leaves =
      kids_leaves t.root tree.root ∙ (ap (λ a. numbers a (past_of t.nodes t.root - a)) tree.whole.0
      ∙ ap (λ b. numbers 0 (b - 0)) tree.whole.1 ∙ ap (numbers 0) (omega arith))
