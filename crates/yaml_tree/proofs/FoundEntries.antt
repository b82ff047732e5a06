-- What a path finds are some of the entries.
use Rattle.std.proofs.Common.{◌≡◌, ℕ, zero, suc, Bool, false, List, [], ◌∷◌, ◌++◌, refl, sym, ap, subst, ◌∙◌}
use Rattle.std.proofs.Common.{append_assoc, append-nil, inl, inr}
use Rattle.std.specs.Prelude.{Option, Some, None, if◌then◌else◌}
use Rattle.std.proofs.lemmas.Bool.{cond_both}
use Rattle.rw_base.specs.declared.tree.NodeId.{NodeId}
use Rattle.rw_base.specs.Trees.{Numbered, none, leaf, node}
use Rattle.rw_base.specs.Arena.{Arena, kind_of}
use Rattle.rw_base.specs.Laid.{kids_of}
use Rattle.rw_grammar.specs.Results.{class_in}
use Rattle.yaml_tree.specs.declared.entry.EntryView.{EntryView}
use Rattle.yaml_tree.specs.declared.key_path.PathStep.{PathStep}
use Rattle.yaml_tree.specs.declared.key_path.PathStep.TheVariants.{Name, AnyName, AnyItem}
use Rattle.yaml_tree.specs.Entries.{behind, is_flow_mapping, key_in, with_key, own_entry, entries_in}
use Rattle.yaml_tree.specs.Found.{Search, at_first, at_each, at_inner, at_items, is_marked, is_any_item, is_sequence}
use Rattle.yaml_tree.specs.Found.{goes_by, from_entry, from_entries, from_node, found, key_text, found_in}
use Rattle.yaml_tree.specs.FoundEntries.{nodes_of, entry_nodes, AreSomeOf}
use Rattle.yaml_tree.proofs.FoundSteps.{found_more, found_none}

-- ---- some of a list

pub skip : (zs xs ys : List NodeId) → AreSomeOf xs ys → AreSomeOf xs (zs ++ ys)
skip [] xs ys s = s
skip (z ∷ zs) [] ys s = tt
skip (z ∷ zs) (x ∷ xs) ys s = inr (skip zs (x ∷ xs) ys s)

pub both : (xs ys us vs : List NodeId) → AreSomeOf xs ys → AreSomeOf us vs → AreSomeOf (xs ++ us) (ys ++ vs)
both [] ys us vs s r = skip ys us vs r
both (x ∷ xs) [] us vs s r = absurd s
both (x ∷ xs) (y ∷ ys) us vs s r =
    elim s [
      | inl here ↦ inl (here.0, both xs ys us vs here.1 r)
      | inr later ↦ inr (both (x ∷ xs) ys us vs later r)
    ]

pub more : (xs ys zs : List NodeId) → AreSomeOf xs ys → AreSomeOf xs (ys ++ zs)
more xs ys zs s = subst (λ us. AreSomeOf us (ys ++ zs)) (append-nil xs) (both xs ys [] zs s tt)

pub nodes_both : (xs ys : List EntryView) → nodes_of (xs ++ ys) ≡ nodes_of xs ++ nodes_of ys
nodes_both [] ys = refl
nodes_both (x ∷ xs) ys = ap (λ ns. x.node ∷ ns) (nodes_both xs ys)

module _ (class : ℕ → ℕ) where
  -- ---- the nodes of the entries in trees

  abbrev pub nodes_in : Bool → Numbered → List NodeId
  nodes_in b g = nodes_of (entries_in class b g)

  -- those in a node
  abbrev pub nodes_below : ℕ → Numbered → List NodeId
  nodes_below kind kids = nodes_in (is_flow_mapping class kind kids) kids

  pub nodes_leaf : (b : Bool) (l : ℕ) (g : Numbered) → nodes_in b (leaf l g) ≡ nodes_in b g
  unfolding entries_in
  nodes_leaf b l g = refl

  pub nodes_node : (b : Bool) (n kind : ℕ) (kids g : Numbered)
      → nodes_in b (node n kind kids g)
      ≡ nodes_of (own_entry class b n kind kids) ++ (nodes_below kind kids ++ nodes_in b g)
  unfolding entries_in
  nodes_node b n kind kids g =
      nodes_both (own_entry class b n kind kids) _
      ∙ ap (λ ns. nodes_of (own_entry class b n kind kids) ++ ns)
      (nodes_both (entries_in class (is_flow_mapping class kind kids) kids) (entries_in class b g))

  -- ---- what is found from a node are entries in it

  IsInside : Search → Type 0
  IsInside f = (kind : ℕ) (kids : Numbered) → AreSomeOf (f kind kids) (nodes_below kind kids)

  module _ (f : Search) (inside : IsInside f) (b : Bool) where
    first_inside : (g : Numbered) → AreSomeOf (at_first f g) (nodes_in b g)
    unfolding IsInside
    first_inside none = tt
    first_inside (leaf l g) = tt
    first_inside (node n kind kids g) =
        subst (AreSomeOf (f kind kids)) (sym (nodes_node b n kind kids g))
        (skip (nodes_of (own_entry class b n kind kids)) (f kind kids) _
        (more (f kind kids) (nodes_below kind kids) (nodes_in b g) (inside kind kids)))

    behind_inside : (k : ℕ) (g : Numbered) → AreSomeOf (at_first f (behind k g)) (nodes_in b g)
    behind_inside zero g = first_inside g
    behind_inside (suc k) none = tt
    behind_inside (suc k) (leaf l g) =
        subst (AreSomeOf (at_first f (behind k g))) (sym (nodes_leaf b l g)) (behind_inside k g)
    behind_inside (suc k) (node n kind kids g) =
        subst (AreSomeOf (at_first f (behind k g))) (sym (nodes_node b n kind kids g))
        (skip (nodes_of (own_entry class b n kind kids)) _ _ (skip (nodes_below kind kids) _ _ (behind_inside k g)))

    each_inside : (g : Numbered) → AreSomeOf (at_each f g) (nodes_in b g)
    unfolding IsInside
    each_inside none = tt
    each_inside (leaf l g) = subst (AreSomeOf (at_each f g)) (sym (nodes_leaf b l g)) (each_inside g)
    each_inside (node n kind kids g) =
        subst (AreSomeOf (f kind kids ++ at_each f g)) (sym (nodes_node b n kind kids g))
        (skip (nodes_of (own_entry class b n kind kids)) _ _
        (both (f kind kids) (nodes_below kind kids) (at_each f g) (nodes_in b g) (inside kind kids) (each_inside g)))

  inner_inside : (f : Search) → IsInside f → IsInside (at_inner f)
  unfolding IsInside
  inner_inside f inside kind kids =
      cond_both (is_marked kind) (at_first f (behind 1 kids)) (f kind kids)
      (λ ns. AreSomeOf ns (nodes_below kind kids))
      (λ e. behind_inside f inside (is_flow_mapping class kind kids) 1 kids) (λ e. inside kind kids)

  items_inside : (f : Search) → IsInside f → IsInside (at_items class f)
  unfolding IsInside
  items_inside f inside kind kids =
      cond_both (is_sequence class kind kids) (at_each (at_inner f) kids) []
      (λ ns. AreSomeOf ns (nodes_below kind kids))
      (λ e. each_inside (at_inner f) (inner_inside f inside) (is_flow_mapping class kind kids) kids) (λ e. tt)

  module _ (text : ℕ → Option (List ℕ)) where
    none_goes : (step : PathStep) → goes_by class text step None ≡ false
    none_goes (Name name) = refl
    none_goes AnyName = refl
    none_goes AnyItem = refl

    module _ (step : PathStep) (f : Search) (inside : IsInside f) (n kind : ℕ) (kids : Numbered) where
      from_key : (steps : List PathStep) (key : ℕ)
          → AreSomeOf (from_entry class text steps f n kids)
          (nodes_of (with_key class n kind kids (Some key)) ++ nodes_below kind kids)
      from_key [] key = inl (refl, tt)
      from_key (s ∷ steps) key =
          skip (record { 0 = n } ∷ []) (at_first f (behind 2 kids)) (nodes_below kind kids)
          (behind_inside f inside (is_flow_mapping class kind kids) 2 kids)

      from_one : (steps : List PathStep) (key : Option ℕ)
          → AreSomeOf (if goes_by class text step key then from_entry class text steps f n kids else [])
          (nodes_of (with_key class n kind kids key) ++ nodes_below kind kids)
      from_one steps None =
          subst (λ (t : Bool). AreSomeOf (if t then from_entry class text steps f n kids else [])
          (nodes_below kind kids)) (sym (none_goes step)) tt
      from_one steps (Some key) =
          cond_both (goes_by class text step (Some key)) (from_entry class text steps f n kids) []
          (λ ns. AreSomeOf ns (nodes_of (with_key class n kind kids (Some key)) ++ nodes_below kind kids))
          (λ e. from_key steps key) (λ e. tt)

    entries_inside : (step : PathStep) (steps : List PathStep) (f : Search) → IsInside f → (b : Bool) (g : Numbered)
        → AreSomeOf (from_entries class text step steps f b g) (nodes_in b g)
    entries_inside step steps f inside b none = tt
    entries_inside step steps f inside b (leaf l g) =
        subst (AreSomeOf (from_entries class text step steps f b g)) (sym (nodes_leaf b l g))
        (entries_inside step steps f inside b g)
    entries_inside step steps f inside b (node n kind kids g) =
        let here = if goes_by class text step (key_in class b kind kids) then from_entry class text steps f n kids
        else [] in
        let own = nodes_of (own_entry class b n kind kids) in
        subst (AreSomeOf (here ++ from_entries class text step steps f b g))
        (append_assoc own (nodes_below kind kids) (nodes_in b g) ∙ sym (nodes_node b n kind kids g))
        (both here (own ++ nodes_below kind kids) (from_entries class text step steps f b g) (nodes_in b g)
        (from_one step f inside n kind kids steps (key_in class b kind kids))
        (entries_inside step steps f inside b g))

    node_inside : (step : PathStep) (steps : List PathStep) (f : Search) → IsInside f
        → IsInside (from_node class text step steps f)
    unfolding IsInside
    node_inside step steps f inside kind kids =
        cond_both (is_any_item step) (at_items class f kind kids)
        (from_entries class text step steps f (is_flow_mapping class kind kids) kids)
        (λ ns. AreSomeOf ns (nodes_below kind kids))
        (λ e. items_inside f inside kind kids)
        (λ e. entries_inside step steps f inside (is_flow_mapping class kind kids) kids)

    found_inside : (steps : List PathStep) → IsInside (found class text steps)
    unfolding IsInside
    found_inside [] kind kids =
        subst (λ ns. AreSomeOf ns (nodes_below kind kids)) (sym (found_none class text kind kids)) tt
    found_inside (step ∷ steps) kind kids =
        subst (λ ns. AreSomeOf ns (nodes_below kind kids)) (sym (found_more class text step steps kind kids))
        (inner_inside (from_node class text step steps (found class text steps))
        (node_inside step steps (found class text steps) (found_inside steps)) kind kids)

pub found_some : (bytes : List ℕ) (path : List PathStep) (t : Arena) → AreSomeOf (found_in bytes path t) (entry_nodes t)
found_some bytes path t =
    let class = class_in t.leaves in
    let text = key_text bytes t.leaves in
    let kind = kind_of t.nodes t.root in
    let kids = kids_of t.nodes t.root in
    let b = is_flow_mapping class kind kids in
    let own = own_entry class false t.root kind kids in
    subst (AreSomeOf (found_in bytes path t)) (sym (nodes_both own (entries_in class b kids)))
    (skip (nodes_of own) (found_in bytes path t) (nodes_in class b kids)
    (each_inside class (at_inner (found class text path))
    (inner_inside class (found class text path) (found_inside class text path)) b kids))
