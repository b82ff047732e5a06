-- What key paths find lies one behind another in a tree.
use Rattle.std.proofs.Common.{◌≡◌, ℕ, zero, suc, ◌+◌, ◌<◌, ◌≤◌, Bool, true, false, List, [], ◌∷◌, ◌++◌, length, refl, sym, ap, subst, ◌∙◌, arith}
use Rattle.std.specs.Prelude.{Option, Some, None, if◌then◌else◌}
use Rattle.rw_base.specs.declared.tree.NodeId.{NodeId}
use Rattle.rw_base.specs.declared.tree.Part.{Part}
use Rattle.rw_base.specs.declared.tree.Part.TheVariants as part
use Rattle.rw_base.specs.Arena.{Arena, IsTree, AreBelow, Runs, kind_of, first_of, past_of, parts_of}
use Rattle.rw_base.specs.Trees.{Numbered, none, leaf, node}
use Rattle.rw_base.specs.Laid.{kids_of, forest_of}
use Rattle.rw_base.specs.PartLaws.{forest_nil, forest_leaf, forest_node, kids_at, by_nodes}
use Rattle.rw_grammar.specs.Results.{class_in}
use Rattle.yaml_tree.specs.declared.key_path.PathStep.{PathStep}
use Rattle.yaml_tree.specs.Entries.{behind, key_in, is_flow_mapping}
use Rattle.yaml_tree.specs.Found.{Search, at_first, at_each, at_inner, at_items, is_marked, is_any_item, is_sequence, goes_by, from_entry, from_entries, from_node, found, found_in, key_text}

module _ (t : Arena) where
  -- a tree among others is the node of its number, and begins at this leaf
  pub record IsHere (a n kind : ℕ) (kids : Numbered) : Type 0 where
    pub inside : n < length t.nodes
    pub first : first_of t.nodes n ≡ a
    pub same_kind : kind ≡ kind_of t.nodes n
    pub same_kids : kids ≡ kids_of t.nodes n

  -- these trees have the leaves from one to before another
  abbrev pub IsLaid : ℕ → Numbered → ℕ → Type 0
  IsLaid a none b = a ≡ b
  IsLaid a (leaf l f) b = (l ≡ a) × (a < length t.leaves) × IsLaid (a + 1) f b
  IsLaid a (node n kind kids f) b =
      IsHere a n kind kids × IsLaid a kids (past_of t.nodes n) × IsLaid (past_of t.nodes n) f b

  pub laid_rises : (a : ℕ) (f : Numbered) (b : ℕ) → IsLaid a f b → a ≤ b
  laid_rises a none b h = omega (arith, h)
  laid_rises a (leaf l f) b h = omega (arith, laid_rises (a + 1) f b h.2)
  laid_rises a (node n kind kids f) b h =
      omega (arith, laid_rises a kids (past_of t.nodes n) h.1, laid_rises (past_of t.nodes n) f b h.2)

  -- what is behind some of the trees
  pub laid_behind : (k a : ℕ) (f : Numbered) (b : ℕ) → IsLaid a f b → (c : ℕ) × (a ≤ c) × IsLaid c (behind k f) b
  laid_behind zero a f b h = (a, omega arith, h)
  laid_behind (suc k) a none b h = (a, omega arith, h)
  laid_behind (suc k) a (leaf l f) b h =
      let more = laid_behind k (a + 1) f b h.2 in
      (more.0, omega (arith, more.1), more.2)
  laid_behind (suc k) a (node n kind kids f) b h =
      let more = laid_behind k (past_of t.nodes n) f b h.2 in
      (more.0, omega (arith, more.1, laid_rises a kids (past_of t.nodes n) h.1), more.2)

  -- ---- each node

  IsNode : ℕ → Type 0
  IsNode m = m < length t.nodes → IsLaid (first_of t.nodes m) (kids_of t.nodes m) (past_of t.nodes m)

  parts_laid : (n : ℕ) → n < length t.nodes → ((m : ℕ) → m < n → IsNode m) → (ps : List Part) (a b : ℕ)
      → AreBelow (length t.leaves) n ps → Runs t.nodes ps a b → IsLaid a (forest_of t.nodes ps) b
  unfolding IsNode
  parts_laid n lt each [] a b below runs = subst (λ f. IsLaid a f b) (sym (forest_nil t.nodes)) runs
  parts_laid n lt each (part.Leaf i ∷ ps) a b below runs =
      subst (λ f. IsLaid a f b) (sym (forest_leaf t.nodes i ps))
      (runs.0, omega (arith, below.0, runs.0), parts_laid n lt each ps (a + 1) b below.1 runs.1)
  parts_laid n lt each (part.Node m ∷ ps) a b below runs =
      let here : m.0 < length t.nodes = omega (arith, below.0) in
      subst (λ f. IsLaid a f b) (sym (forest_node t.nodes m ps)) (
        record { inside = here; first = runs.0; same_kind = refl; same_kids = refl },
        subst (λ x. IsLaid x (kids_of t.nodes m.0) (past_of t.nodes m.0)) runs.0 (each m.0 below.0 here),
        parts_laid n lt each ps (past_of t.nodes m.0) b below.1 runs.1,
      )

  pub node_laid : IsTree t → (n : ℕ) → n < length t.nodes
      → IsLaid (first_of t.nodes n) (kids_of t.nodes n) (past_of t.nodes n)
  unfolding IsNode
  node_laid tree n lt = by_nodes IsNode each n lt
    where
      each : (n : ℕ) → ((m : ℕ) → m < n → IsNode m) → IsNode n
      each n below lt =
          subst (λ f. IsLaid (first_of t.nodes n) f (past_of t.nodes n)) (sym (kids_at t tree n lt))
          (parts_laid n lt below (parts_of t.nodes n) (first_of t.nodes n) (past_of t.nodes n) (tree.below n lt)
          (tree.spans n lt))

  -- ---- what is found

  -- nodes of the tree, one behind another, with leaves from one to before another
  abbrev pub AreFound : ℕ → List NodeId → ℕ → Type 0
  AreFound a [] b = a ≤ b
  AreFound a (n ∷ ns) b = (a ≤ first_of t.nodes n.0) × (n.0 < length t.nodes) × AreFound (past_of t.nodes n.0) ns b

  found_earlier : (a c : ℕ) (ns : List NodeId) (b : ℕ) → a ≤ c → AreFound c ns b → AreFound a ns b
  found_earlier a c [] b le h = omega (arith, le, h)
  found_earlier a c (n ∷ ns) b le h = (omega (arith, le, h.0), h.1, h.2)

  found_later : (a : ℕ) (ns : List NodeId) (c b : ℕ) → c ≤ b → AreFound a ns c → AreFound a ns b
  found_later a [] c b le h = omega (arith, le, h)
  found_later a (n ∷ ns) c b le h = (h.0, h.1, found_later (past_of t.nodes n.0) ns c b le h.2)

  found_both : (a : ℕ) (ms : List NodeId) (c : ℕ) (ns : List NodeId) (b : ℕ) → AreFound a ms c → AreFound c ns b
      → AreFound a (ms ++ ns) b
  found_both a [] c ns b h g = found_earlier a c ns b h g
  found_both a (m ∷ ms) c ns b h g = (h.0, h.1, found_both (past_of t.nodes m.0) ms c ns b h.2 g)

  abbrev Finds : Search → Type 0
  Finds s = (kind : ℕ) (kids : Numbered) (a b : ℕ) → IsLaid a kids b → AreFound a (s kind kids) b

  first_finds : (s : Search) → Finds s → (f : Numbered) (a b : ℕ) → IsLaid a f b → AreFound a (at_first s f) b
  first_finds s finds none a b h = laid_rises a none b h
  first_finds s finds (leaf l f) a b h = laid_rises a (leaf l f) b h
  first_finds s finds (node n kind kids f) a b h =
      found_later a (s kind kids) (past_of t.nodes n) b (laid_rises (past_of t.nodes n) f b h.2)
      (finds kind kids a (past_of t.nodes n) h.1)

  behind_finds : (s : Search) → Finds s → (k : ℕ) (f : Numbered) (a b : ℕ) → IsLaid a f b
      → AreFound a (at_first s (behind k f)) b
  behind_finds s finds k f a b h =
      let more = laid_behind k a f b h in
      found_earlier a more.0 (at_first s (behind k f)) b more.1 (first_finds s finds (behind k f) more.0 b more.2)

  each_finds : (s : Search) → Finds s → (f : Numbered) (a b : ℕ) → IsLaid a f b → AreFound a (at_each s f) b
  each_finds s finds none a b h = laid_rises a none b h
  each_finds s finds (leaf l f) a b h =
      found_earlier a (a + 1) (at_each s f) b (omega arith) (each_finds s finds f (a + 1) b h.2)
  each_finds s finds (node n kind kids f) a b h =
      found_both a (s kind kids) (past_of t.nodes n) (at_each s f) b (finds kind kids a (past_of t.nodes n) h.1)
      (each_finds s finds f (past_of t.nodes n) b h.2)

  inner_finds : (s : Search) → Finds s → Finds (at_inner s)
  inner_finds s finds kind kids a b h = by_test (is_marked kind)
    where
      by_test : (marked : Bool) → AreFound a (if marked then at_first s (behind 1 kids) else s kind kids) b
      by_test true = behind_finds s finds 1 kids a b h
      by_test false = finds kind kids a b h

  module _ (class : ℕ → ℕ) (text : ℕ → Option (List ℕ)) where
    items_find : (s : Search) → Finds s → Finds (at_items class s)
    items_find s finds kind kids a b h = by_test (is_sequence class kind kids)
      where
        by_test : (sequence : Bool) → AreFound a (if sequence then at_each (at_inner s) kids else []) b
        by_test true = each_finds (at_inner s) (inner_finds s finds) kids a b h
        by_test false = laid_rises a kids b h

    entry_finds : (steps : List PathStep) (s : Search) → Finds s → (n kind : ℕ) (kids : Numbered) (a : ℕ)
        → IsHere a n kind kids → IsLaid a kids (past_of t.nodes n)
        → AreFound a (from_entry class text steps s n kids) (past_of t.nodes n)
    entry_finds [] s finds n kind kids a here h = (omega (arith, here.first), here.inside, omega arith)
    entry_finds (step ∷ steps) s finds n kind kids a here h = behind_finds s finds 2 kids a (past_of t.nodes n) h

    entries_find : (step : PathStep) (steps : List PathStep) (s : Search) → Finds s → (b : Bool) (f : Numbered)
        (a c : ℕ) → IsLaid a f c → AreFound a (from_entries class text step steps s b f) c
    entries_find step steps s finds b none a c h = laid_rises a none c h
    entries_find step steps s finds b (leaf l f) a c h =
        found_earlier a (a + 1) (from_entries class text step steps s b f) c (omega arith)
        (entries_find step steps s finds b f (a + 1) c h.2)
    entries_find step steps s finds b (node n kind kids f) a c h =
        found_both a (if goes_by class text step (key_in class b kind kids) then from_entry class text steps s n kids
        else []) (past_of t.nodes n) (from_entries class text step steps s b f) c
        (by_test (goes_by class text step (key_in class b kind kids)))
        (entries_find step steps s finds b f (past_of t.nodes n) c h.2)
      where
        by_test : (goes : Bool)
            → AreFound a (if goes then from_entry class text steps s n kids else []) (past_of t.nodes n)
        by_test true = entry_finds steps s finds n kind kids a h.0 h.1
        by_test false = laid_rises a kids (past_of t.nodes n) h.1

    node_finds : (step : PathStep) (steps : List PathStep) (s : Search) → Finds s
        → Finds (from_node class text step steps s)
    node_finds step steps s finds kind kids a b h = by_test (is_any_item step)
      where
        by_test : (item : Bool) → AreFound a (if item then at_items class s kind kids
            else from_entries class text step steps s (is_flow_mapping class kind kids) kids) b
        by_test true = items_find s finds kind kids a b h
        by_test false = entries_find step steps s finds (is_flow_mapping class kind kids) kids a b h

    steps_find : (steps : List PathStep) → Finds (found class text steps)
    unfolding found
    steps_find [] kind kids a b h = laid_rises a kids b h
    steps_find (step ∷ steps) kind kids a b h =
        inner_finds (from_node class text step steps (found class text steps))
        (node_finds step steps (found class text steps) (steps_find steps)) kind kids a b h

  -- a path finds nodes of the tree, one behind another
  pub path_finds : IsTree t → (bytes : List ℕ) (path : List PathStep) → AreFound 0 (found_in bytes path t) (length t.leaves)
  path_finds tree bytes path =
      let class = class_in t.leaves in
      let text = key_text bytes t.leaves in
      each_finds (at_inner (found class text path)) (inner_finds (found class text path) (steps_find class text path))
      (kids_of t.nodes t.root) 0 (length t.leaves)
      (subst (λ a. IsLaid a (kids_of t.nodes t.root) (length t.leaves)) tree.whole.0
      (subst (λ b. IsLaid (first_of t.nodes t.root) (kids_of t.nodes t.root) b) tree.whole.1
      (node_laid tree t.root tree.root)))
