-- What the parts of a node give, one after another.
use Rattle.std.proofs.Common.{◌≡◌, ℕ, ◌+◌, ◌-◌, ◌<◌, ◌≤◌, List, [], ◌∷◌, ◌++◌, length, take, drop, refl, sym, ap, ◌∙◌}
use Rattle.std.proofs.Common.{append_assoc, arith}
use Rattle.std.specs.Prelude.{slice_range}
use Rattle.std.proofs.lemmas.List.{take_all, drop-drop}
use Rattle.std.proofs.Math.Seq.{take-add}
use Rattle.rw_base.specs.declared.tree.Part.{Part}
use Rattle.rw_base.specs.declared.tree.Part.TheVariants as part
use Rattle.rw_base.specs.Arena.{Arena, IsTree, PartsHold, AreBelow, Runs, first_of, past_of}
use Rattle.rw_base.specs.NewText.{join_parts}

-- ---- slices

-- two slices that meet are one
pub joined_slices : {A : Type 0} (xs : List A) (a b c : ℕ) → a ≤ b → b ≤ c
    → slice_range xs a b ++ slice_range xs b c ≡ slice_range xs a c
joined_slices xs a b c ab bc =
    let whole : c - a ≡ (b - a) + (c - b) = omega arith in
    let meet : a + (b - a) ≡ b = omega arith in
    sym (ap (λ n. take n (drop a xs)) whole
    ∙ (take-add (b - a) (c - b) (drop a xs)
    ∙ ap (λ l. take (b - a) (drop a xs) ++ take (c - b) l) (drop-drop (b - a) a xs ∙ ap (λ n. drop n xs) meet)))

pub empty_slice : {A : Type 0} (xs : List A) (a : ℕ) → slice_range xs a a ≡ []
empty_slice xs a = let none : a - a ≡ 0 = omega arith in ap (λ n. take n (drop a xs)) none

pub whole_slice : {A : Type 0} (xs : List A) (n : ℕ) → n ≡ length xs → slice_range xs 0 n ≡ xs
whole_slice xs n e = let all : n - 0 ≡ n = omega arith in ap (λ n. take n xs) all ∙ take_all n xs (omega arith)

-- ---- parts one after another

pub hold_all : (leaf_count n : ℕ) (P Q : ℕ → Type 0) (ps : List Part) → AreBelow leaf_count n ps
    → ((i : ℕ) → i < leaf_count → P i) → ((m : ℕ) → m < n → Q m) → PartsHold P Q ps
hold_all leaf_count n P Q [] b p q = tt
hold_all leaf_count n P Q (part.Leaf i ∷ ps) b p q = (p i b.0, hold_all leaf_count n P Q ps b.1 p q)
hold_all leaf_count n P Q (part.Node m ∷ ps) b p q = (q m.0 b.0, hold_all leaf_count n P Q ps b.1 p q)

module _ {A : Type 0} where
  -- it is the same where each leaf and node gives the same
  pub joined_same : (l k f h : ℕ → List A) (ps : List Part) → PartsHold (λ i. l i ≡ k i) (λ m. f m ≡ h m) ps
      → join_parts l f ps ≡ join_parts k h ps
  joined_same l k f h [] e = refl
  joined_same l k f h (part.Leaf i ∷ ps) e = ap (λ w. w ++ join_parts l f ps) e.0
      ∙ ap (λ w. k i ++ w) (joined_same l k f h ps e.1)
  joined_same l k f h (part.Node m ∷ ps) e = ap (λ w. w ++ join_parts l f ps) e.0
      ∙ ap (λ w. h m.0 ++ w) (joined_same l k f h ps e.1)

  -- a row's parts read nodes before it alone
  pub joined_reads : (leaf_count n : ℕ) (l f h : ℕ → List A) (ps : List Part) → AreBelow leaf_count n ps
      → ((m : ℕ) → m < n → f m ≡ h m) → join_parts l f ps ≡ join_parts l h ps
  joined_reads leaf_count n l f h ps b q =
      joined_same l l f h ps (hold_all leaf_count n (λ i. l i ≡ l i) (λ m. f m ≡ h m) ps b (λ i _. refl) q)

  pub joined_append : (l f : ℕ → List A) (ps qs : List Part)
      → join_parts l f (ps ++ qs) ≡ join_parts l f ps ++ join_parts l f qs
  joined_append l f [] qs = refl
  joined_append l f (part.Leaf i ∷ ps) qs = ap (λ w. l i ++ w) (joined_append l f ps qs)
      ∙ sym (append_assoc (l i) (join_parts l f ps) (join_parts l f qs))
  joined_append l f (part.Node m ∷ ps) qs = ap (λ w. f m.0 ++ w) (joined_append l f ps qs)
      ∙ sym (append_assoc (f m.0) (join_parts l f ps) (join_parts l f qs))

-- a function that joins what lists give joins what parts give
pub joined_map : {A B : Type 0} (F : List A → List B) (l f : ℕ → List A) (ps : List Part) → F [] ≡ []
    → ((xs ys : List A) → F (xs ++ ys) ≡ F xs ++ F ys)
    → F (join_parts l f ps) ≡ join_parts (λ i. F (l i)) (λ m. F (f m)) ps
joined_map F l f [] n a = n
joined_map F l f (part.Leaf i ∷ ps) n a = a (l i) (join_parts l f ps) ∙ ap (λ w. F (l i) ++ w) (joined_map F l f ps n a)
joined_map F l f (part.Node m ∷ ps) n a = a (f m.0) (join_parts l f ps)
    ∙ ap (λ w. F (f m.0) ++ w) (joined_map F l f ps n a)

-- ---- parts that run over leaves

module _ (t : Arena) (tree : IsTree t) where
  runs_rise : (n : ℕ) (ps : List Part) (a b : ℕ) → n ≤ length t.nodes → AreBelow (length t.leaves) n ps
      → Runs t.nodes ps a b → a ≤ b
  runs_rise n [] a b le below runs = omega (arith, runs)
  runs_rise n (part.Leaf i ∷ ps) a b le below runs = omega (arith, runs_rise n ps (a + 1) b le below.1 runs.1)
  runs_rise n (part.Node m ∷ ps) a b le below runs =
      omega (
        arith,
        runs_rise n ps (past_of t.nodes m.0) b le below.1 runs.1,
        tree.ordered m.0
            (omega (arith, below.0)),
        runs.0,
      )

  -- Where each leaf and node gives what lies between its first leaf and the one behind its last, so do all of them.
  pub joined_run : {A : Type 0} (between : ℕ → ℕ → List A) (l f : ℕ → List A) (none : (a : ℕ) → between a a ≡ [])
      (meet : (a b c : ℕ) → a ≤ b → b ≤ c → c ≤ length t.leaves → between a b ++ between b c ≡ between a c)
      (n : ℕ) (ps : List Part) (a b : ℕ) → n ≤ length t.nodes → b ≤ length t.leaves → AreBelow (length t.leaves) n ps
      → Runs t.nodes ps a b
      → PartsHold (λ i. l i ≡ between i (i + 1)) (λ m. f m ≡ between (first_of t.nodes m) (past_of t.nodes m)) ps
      → join_parts l f ps ≡ between a b
  joined_run between l f none meet n [] a b le inside below runs gives = sym (ap (between a) (sym runs) ∙ none a)
  joined_run between l f none meet n (part.Leaf i ∷ ps) a b le inside below runs gives =
      let rise = runs_rise n ps (a + 1) b le below.1 runs.1 in
      let here : l i ≡ between a (a + 1) = gives.0 ∙ ap (λ j. between j (j + 1)) runs.0 in
      ap (λ w. w ++ join_parts l f ps) here
      ∙ (ap (λ w. between a (a + 1) ++ w)
      (joined_run between l f none meet n ps (a + 1) b le inside below.1 runs.1 gives.1)
      ∙ meet a (a + 1) b (omega arith) rise inside)
  joined_run between l f none meet n (part.Node m ∷ ps) a b le inside below runs gives =
      let past = past_of t.nodes m.0 in
      let rise = runs_rise n ps past b le below.1 runs.1 in
      let here : f m.0 ≡ between a past = gives.0 ∙ ap (λ j. between j past) runs.0 in
      ap (λ w. w ++ join_parts l f ps) here
      ∙ (ap (λ w. between a past ++ w)
      (joined_run between l f none meet n ps past b le inside below.1 runs.1 gives.1)
      ∙ meet a past b (omega (arith, tree.ordered m.0 (omega (arith, below.0)), runs.0)) rise inside)
