-- Mappings of which entries go, one place after another, and that their edits fit.
use Rattle.std.proofs.Common.{◌≡◌, ℕ, zero, suc, ◌+◌, ◌-◌, ◌<◌, ◌≤◌, ◌==◌, ◌&&◌, ◌||◌, Bool, true, false, not, List, [], ◌∷◌, ◌++◌, length, map, take, drop, get_or, set, refl, sym, ap, subst, ◌∙◌, append_assoc, append-nil, arith, add-one, drop-cons, replicate}
use Rattle.std.specs.Prelude.{Option, Some, None, IfSome, All, filter, cond, if◌then◌else◌}
use Rattle.std.specs.List.{flat_map, list_any, AllByRecursion}
use Rattle.std.specs.Option.{option_to_list}
use Rattle.std.proofs.Common.{◌≢◌, ◌⊎◌, inl, inr}
use Rattle.std.proofs.lemmas.List.{drop_all, get_or_past, get_or-replicate, length-replicate, get_or-set_same, get_or-set_other, length-set}
use Rattle.std.proofs.lemmas.Bool.{cases_eq, cases_lt}
use Rattle.std.proofs.lemmas.List.Elements.{All-nil, All-cons}
use Rattle.std.proofs.lemmas.Bool.{ne_eqb, eq-eqb}
use Rattle.rw_base.specs.declared.edit.Edit.{Edit}
use Rattle.rw_base.specs.declared.edit.Item.{Item}
use Rattle.rw_base.specs.declared.edit.Item.TheVariants as item
use Rattle.rw_base.specs.declared.edit.Spot.{Spot}
use Rattle.rw_base.specs.declared.edit.Spot.TheVariants as spot
use Rattle.rw_base.specs.declared.tree.NodeId.{NodeId}
use Rattle.rw_base.specs.declared.tree.Part.{Part}
use Rattle.rw_base.specs.declared.tree.Part.TheVariants as part
use Rattle.rw_base.specs.declared.tree.NodeRow.{NodeRow}
use Rattle.rw_base.specs.Arena.{Arena, IsTree, AreBelow, kind_of, first_of, past_of, parts_of, row_at, no_row, prefix_of, leaf_at}
use Rattle.rw_base.specs.Laid.{kids_of}
use Rattle.rw_base.specs.NewText.{front_of, IsSpot, IsItemOf, AreRanked, AreEdits}
use Rattle.rw_base.specs.RankedEdits.{ranked_are_edits}
use Rattle.rw_base.specs.Trees.{Numbered, none, leaf, node, numbers}
use Rattle.rw_grammar.specs.Results.{class_in}
use Rattle.rw_host.specs.declared.file.FileEdit.{FileEdit}
use Rattle.rw_host.specs.declared.file.FileEdit.TheVariants as edit
use Rattle.kept_files.specs.FileEdits.{with_edits, FitsFile}
use Rattle.kept_files.specs.States.{yaml_in}
use Rattle.kept_files.specs.declared.file.KeptFile.{KeptFile}
use Rattle.yaml_lex.specs.declared.class.TheConstants.{COMMA, BRACE_OPEN}
use Rattle.yaml_tree.specs.declared.option.DeleteKey.{DeleteKey}
use Rattle.conf_recipes.specs.declared.yaml_text.TheConstants.{MAP}
use Rattle.yaml_tree.specs.Entries.{is_flow_mapping, leaf_first, has_class}
use Rattle.yaml_tree.specs.Found.{found_in}
use Rattle.conf_recipes.specs.declared.yaml_deletions.Place.{Place}
use Rattle.conf_recipes.specs.YamlDeletions.{block_place, block_places, flow_places, no_place, has_content, first_front, first_items, further_items, items_of, in_braces, empty_mapping, goes, staying, mapping_items, mapping_edits, node_edits, deletions, is_among, is_marked_in}
use Rattle.conf_recipes.proofs.YamlSpans.{IsLaid, laid_rises, node_laid, AreFound, path_finds}
use Rattle.conf_recipes.proofs.YamlEdits.{fits_file}
use Rattle.conf_recipes.proofs.Loops.{loop_end, loop_step}

-- ---- the prefix of a node

-- by the first leaf and the one behind the last
front_by : Arena → List ℕ → ℕ → ℕ → List ℕ
front_by t bytes first past = if first == past then [] else prefix_of bytes (leaf_at t.leaves first)

pub front_outside : (t : Arena) (bytes : List ℕ) (n : ℕ) → length t.nodes ≤ n → [] ≡ front_of t bytes n
unfolding front_of front_by row_at
front_outside t bytes n le =
    sym (ap (λ (r : NodeRow). front_by t bytes r.first r.past) (get_or_past t.nodes n no_row le))

pub front_empty : (t : Arena) (bytes : List ℕ) (n first past : ℕ) → first ≡ first_of t.nodes n
    → past ≡ past_of t.nodes n → first ≡ past → [] ≡ front_of t bytes n
unfolding front_of
front_empty t bytes n first past f p e =
    sym (ap (λ (b : Bool). if b then [] else prefix_of bytes (leaf_at t.leaves (first_of t.nodes n)))
    (eq-eqb (first_of t.nodes n) (past_of t.nodes n) (sym f ∙ (e ∙ p))))

pub front_here : (t : Arena) (bytes : List ℕ) (n first past : ℕ) (text : List ℕ) → first ≡ first_of t.nodes n
    → past ≡ past_of t.nodes n → (first ≡ past → ⊥) → text ≡ prefix_of bytes (leaf_at t.leaves first)
    → text ≡ front_of t bytes n
unfolding front_of
front_here t bytes n first past text f p d is =
    is ∙ (ap (λ i. prefix_of bytes (leaf_at t.leaves i)) f
    ∙ sym (ap (λ (b : Bool). if b then [] else prefix_of bytes (leaf_at t.leaves (first_of t.nodes n)))
    (ne_eqb (first_of t.nodes n) (past_of t.nodes n) (λ e. d (f ∙ (e ∙ sym p))))))

pub first_inside : (t : Arena) → IsTree t → (n first past : ℕ) → n < length t.nodes → first ≡ first_of t.nodes n
    → past ≡ past_of t.nodes n → (first ≡ past → ⊥) → first < length t.leaves
first_inside t tree n first past lt f p d =
    let ordered = tree.ordered n lt in
    let inside = tree.inside n lt in
    omega (arith, f, p, d, ordered, inside)

pub ruleset fronts = (front_outside, front_empty, front_here, first_inside)

-- ---- one place after another

module _ (ps : List Part) (k : ℕ) (out all : List Place) where
  pub block_end : length ps ≤ k → out ++ block_places (drop k ps) ≡ all → out ≡ all
  block_end le so_far = loop_end block_places block_place ps all refl out k le so_far

  pub block_more : (p : Part) (more : List Place) → k < length ps → p ≡ get_or ps k p
      → more ≡ out ++ block_place p → out ++ block_places (drop k ps) ≡ all
      → more ++ block_places (drop (k + 1) ps) ≡ all
  block_more p more lt here is so_far =
      loop_step block_places block_place ps all (λ x xs. refl) out more k p lt
      (is ∙ ap (λ q. out ++ block_place q) here) so_far

pub ruleset block_loop = (block_end, block_more)

module _ (gone : ℕ → Bool) (ps : List Place) (k : ℕ) (out all : List Place) where
  pub stay_end : length ps ≤ k → out ++ staying gone (drop k ps) ≡ all → out ≡ all
  stay_end le so_far = loop_end (staying gone) (λ p. staying gone (p ∷ [])) ps all refl out k le so_far

  stay_over : (p : Place) (qs : List Place) → staying gone (p ∷ qs) ≡ staying gone (p ∷ []) ++ staying gone qs
  stay_over p qs = by_test (not (goes gone p))
    where
      by_test : (b : Bool) → cond b (p ∷ staying gone qs) (staying gone qs) ≡ cond b (p ∷ []) [] ++ staying gone qs
      by_test true = refl
      by_test false = refl

  pub stay_more : (p : Place) (more : List Place) → k < length ps → p ≡ get_or ps k p
      → more ≡ out ++ staying gone (p ∷ []) → out ++ staying gone (drop k ps) ≡ all
      → more ++ staying gone (drop (k + 1) ps) ≡ all
  stay_more p more lt here is so_far =
      loop_step (staying gone) (λ q. staying gone (q ∷ [])) ps all stay_over out more k p lt
      (is ∙ ap (λ q. out ++ staying gone (q ∷ [])) here) so_far

pub ruleset stay_loop = (stay_end, stay_more)

pub stays_not : (gone : ℕ → Bool) (p : Place) (b : Bool) (out : List Place) → b ≡ goes gone p → b ≡ true
    → out ≡ out ++ staying gone (p ∷ [])
stays_not gone p b out is holds =
    sym (ap (λ x. out ++ cond (not x) (p ∷ []) []) (sym is ∙ holds) ∙ append-nil out)

pub stays : (gone : ℕ → Bool) (p : Place) (b : Bool) (out more : List Place) → b ≡ goes gone p → b ≡ false
    → more ≡ out ++ p ∷ [] → more ≡ out ++ staying gone (p ∷ [])
stays gone p b out more is fails pushed = pushed ∙ sym (ap (λ x. out ++ cond (not x) (p ∷ []) []) (sym is ∙ fails))

pub ruleset stay_steps = (stays_not, stays)

module _ (ps : List Place) (k : ℕ) (out all : List Item) where
  pub further_end : length ps ≤ k → out ++ flat_map further_items (drop k ps) ≡ all → out ≡ all
  further_end le so_far = loop_end (flat_map further_items) further_items ps all refl out k le so_far

  pub further_more : (p : Place) (more : List Item) → k < length ps → p ≡ get_or ps k p
      → more ≡ out ++ further_items p → out ++ flat_map further_items (drop k ps) ≡ all
      → more ++ flat_map further_items (drop (k + 1) ps) ≡ all
  further_more p more lt here is so_far =
      loop_step (flat_map further_items) further_items ps all (λ x xs. refl) out more k p lt
      (is ∙ ap (λ q. out ++ further_items q) here) so_far

pub ruleset further_loop = (further_end, further_more)

pub two_items : (a b out middle new : List Item) → middle ≡ out ++ a → new ≡ middle ++ b → new ≡ out ++ (a ++ b)
two_items a b out middle new m e = e ∙ (ap (λ x. x ++ b) m ∙ append_assoc out a b)

module _ (class : ℕ → ℕ) (p : Place) (l : ℕ) (rest : List Part) (out : List Place) where
  pub passed_leaf : (x : ℕ) → x ≡ class l → (x ≡ COMMA → ⊥)
      → out ++ flow_places class p rest ≡ out ++ flow_places class p (part.Leaf l ∷ rest)
  passed_leaf x is other =
      sym (ap (λ b. out ++ (if b then p ∷ flow_places class (record { comma = Some l; content = None }) rest
      else flow_places class p rest)) (ap (λ y. y == COMMA) (sym is) ∙ ne_eqb x COMMA other))

  pub passed_comma : (x : ℕ) (more : List Place) → x ≡ class l → x ≡ COMMA → more ≡ out ++ p ∷ []
      → more ++ flow_places class (record { comma = Some l; content = None }) rest
      ≡ out ++ flow_places class p (part.Leaf l ∷ rest)
  passed_comma x more is comma pushed =
      ap (λ w. w ++ flow_places class (record { comma = Some l; content = None }) rest) pushed
      ∙ (append_assoc out (p ∷ []) (flow_places class (record { comma = Some l; content = None }) rest)
      ∙ sym (ap (λ b. out ++ (if b then p ∷ flow_places class (record { comma = Some l; content = None }) rest
      else flow_places class p rest)) (ap (λ y. y == COMMA) (sym is) ∙ eq-eqb x COMMA comma)))

pub ruleset flow_steps = (passed_leaf, passed_comma)

module _ (class : ℕ → ℕ) (ps : List Part) (k : ℕ) (out all : List Place) (p : Place) where
  pub flow_end : length ps ≤ k → (more : List Place) → more ≡ out ++ p ∷ []
      → out ++ flow_places class p (drop k ps) ≡ all → more ≡ all
  flow_end le more pushed so_far =
      pushed ∙ (ap (λ xs. out ++ flow_places class p xs) (sym (drop_all k ps le)) ∙ so_far)

  at_part : (d q : Part) → k < length ps → get_or ps k d ≡ q
      → out ++ flow_places class p (drop k ps) ≡ all → out ++ flow_places class p (q ∷ drop (k + 1) ps) ≡ all
  at_part d q lt here so_far =
      ap (λ xs. out ++ flow_places class p xs)
      (ap (λ x. x ∷ drop (k + 1) ps) (sym here) ∙ sym (drop-cons ps k d lt ∙ rw add-one refl)) ∙ so_far

  pub flow_node : (d : Part) (m : NodeId) → k < length ps → get_or ps k d ≡ part.Node m
      → out ++ flow_places class p (drop k ps) ≡ all
      → out ++ flow_places class (record { comma = p.comma; content = Some m }) (drop (k + 1) ps) ≡ all
  flow_node d m lt here so_far = at_part d (part.Node m) lt here so_far

  pub flow_leaf : (d : Part) (l : ℕ) (q : Place) (more : List Place) → k < length ps → get_or ps k d ≡ part.Leaf l
      → ((rest : List Part) → more ++ flow_places class q rest ≡ out ++ flow_places class p (part.Leaf l ∷ rest))
      → out ++ flow_places class p (drop k ps) ≡ all → more ++ flow_places class q (drop (k + 1) ps) ≡ all
  flow_leaf d l q more lt here step so_far =
      step (drop (k + 1) ps) ∙ at_part d (part.Leaf l) lt here so_far

pub ruleset flow_loop = (flow_end)

-- ---- one node after another

module _ (t : Arena) (bytes : List ℕ) (gone : ℕ → Bool) (n : ℕ) (out all : List Edit) where
  pub nodes_end : length t.nodes ≤ n
      → out ++ flat_map (node_edits t bytes gone) (numbers n (length t.nodes - n)) ≡ all → out ≡ all
  nodes_end le so_far =
      let nothing : length t.nodes - n ≡ 0 = omega arith in
      sym (append-nil out)
      ∙ (ap (λ k. out ++ flat_map (node_edits t bytes gone) (numbers n k)) (sym nothing) ∙ so_far)

  pub nodes_more : (more : List Edit) → n < length t.nodes → more ≡ out ++ node_edits t bytes gone n
      → out ++ flat_map (node_edits t bytes gone) (numbers n (length t.nodes - n)) ≡ all
      → more ++ flat_map (node_edits t bytes gone) (numbers (n + 1) (length t.nodes - (n + 1))) ≡ all
  nodes_more more lt is so_far =
      let one : length t.nodes - n ≡ suc (length t.nodes - (n + 1)) = omega arith in
      let rest = flat_map (node_edits t bytes gone) (numbers (n + 1) (length t.nodes - (n + 1))) in
      ap (λ w. w ++ rest) is
      ∙ (append_assoc out (node_edits t bytes gone n) rest
      ∙ (ap (λ k. out ++ flat_map (node_edits t bytes gone) (numbers n k)) (sym one) ∙ so_far))

pub ruleset node_loop = (nodes_end, nodes_more)

-- ---- what becomes of a mapping

pub in_braces_by : (t : Arena) (n first past : ℕ) (items some all : List Item) → first ≡ first_of t.nodes n
    → past ≡ past_of t.nodes n → some ≡ item.Leaf first ∷ items → all ≡ some ++ item.Leaf (past - 1) ∷ []
    → all ≡ in_braces t n items
in_braces_by t n first past items some all f p one two =
    two ∙ (ap (λ is. is ++ item.Leaf (past - 1) ∷ []) one
    ∙ (ap (λ i. item.Leaf i ∷ (items ++ item.Leaf (past - 1) ∷ [])) f
    ∙ ap (λ i. item.Leaf (first_of t.nodes n) ∷ (items ++ item.Leaf (i - 1) ∷ [])) p))

pub ruleset braces = (in_braces_by)

module _ (t : Arena) (n : ℕ) (block : Bool) (stays : List Place) (items : List Item) (b : Bool) (is : List Item)
    (told : b ≡ list_any has_content stays) where
  abbrev becomes : Bool → Bool → List Item
  becomes x y = if x then (if y then items else in_braces t n items) else empty_mapping

  pub none_left : b ≡ false → is ≡ empty_mapping → is ≡ becomes (list_any has_content stays) block
  none_left fails e = e ∙ ap (λ x. becomes x block) (sym fails ∙ told)

  pub block_left : b ≡ true → block ≡ true → is ≡ items → is ≡ becomes (list_any has_content stays) block
  block_left holds here e =
      e ∙ (ap (becomes true) (sym here) ∙ ap (λ x. becomes x block) (sym holds ∙ told))

  pub flow_left : b ≡ true → block ≡ false → is ≡ in_braces t n items
      → is ≡ becomes (list_any has_content stays) block
  flow_left holds here e =
      e ∙ (ap (becomes true) (sym here) ∙ ap (λ x. becomes x block) (sym holds ∙ told))

pub ruleset mapping_cases = (none_left, block_left, flow_left)

module _ (t : Arena) (bytes : List ℕ) (gone : ℕ → Bool) (n : ℕ) (block : Bool) (ps : List Place) (b : Bool)
    (out : List Edit) (told : b ≡ list_any (goes gone) ps) where
  abbrev edits_if : Bool → List Edit
  edits_if x =
      if x then record { spot = spot.Node (record { 0 = n }); items = mapping_items t bytes gone n block ps } ∷ []
      else []

  pub nothing_goes : b ≡ false → out ≡ out ++ mapping_edits t bytes gone n block ps
  nothing_goes fails = sym (append-nil out) ∙ ap (λ x. out ++ edits_if x) (sym fails ∙ told)

  pub something_goes : b ≡ true → (more : List Edit) (e : Edit) → more ≡ out ++ e ∷ []
      → e ≡ record { spot = spot.Node (record { 0 = n }); items = mapping_items t bytes gone n block ps }
      → more ≡ out ++ mapping_edits t bytes gone n block ps
  something_goes holds more e pushed is =
      pushed ∙ (ap (λ x. out ++ x ∷ []) is ∙ ap (λ x. out ++ edits_if x) (sym holds ∙ told))

pub ruleset mapping_steps = (nothing_goes, something_goes)

module _ (t : Arena) (bytes : List ℕ) (gone : ℕ → Bool) (n : ℕ) (out more : List Edit) where
  abbrev node_if : Bool → Bool → List Edit
  node_if x y =
      if x then mapping_edits t bytes gone n true (block_places (parts_of t.nodes n))
      else if y then mapping_edits t bytes gone n false
      (flow_places (class_in t.leaves) no_place (parts_of t.nodes n))
      else []

  pub at_block : (kind : ℕ) → kind ≡ kind_of t.nodes n → kind ≡ MAP → (ps : List Place)
      → ps ≡ block_places (parts_of t.nodes n) → more ≡ out ++ mapping_edits t bytes gone n true ps
      → more ≡ out ++ node_edits t bytes gone n
  unfolding node_edits
  at_block kind same is ps places e =
      e ∙ (ap (λ qs. out ++ mapping_edits t bytes gone n true qs) places
      ∙ ap (λ x. out ++ node_if x (is_flow_mapping (class_in t.leaves) (kind_of t.nodes n) (kids_of t.nodes n)))
      (sym (eq-eqb (kind_of t.nodes n) MAP (sym same ∙ is))))

  not_block : (kind : ℕ) → kind ≡ kind_of t.nodes n → (kind ≡ MAP → ⊥) → (y : Bool)
      → y ≡ is_flow_mapping (class_in t.leaves) (kind_of t.nodes n) (kids_of t.nodes n)
      → more ≡ out ++ node_if false y → more ≡ out ++ node_edits t bytes gone n
  unfolding node_edits
  not_block kind same is y told e =
      e ∙ (ap (λ z. out ++ node_if false z) told
      ∙ ap (λ x. out ++ node_if x (is_flow_mapping (class_in t.leaves) (kind_of t.nodes n) (kids_of t.nodes n)))
      (sym (ne_eqb (kind_of t.nodes n) MAP (λ q. is (same ∙ q)))))

  pub at_flow : (kind : ℕ) → kind ≡ kind_of t.nodes n → (kind ≡ MAP → ⊥) → (y : Bool)
      → y ≡ is_flow_mapping (class_in t.leaves) (kind_of t.nodes n) (kids_of t.nodes n) → y ≡ true → (ps : List Place)
      → ps ≡ flow_places (class_in t.leaves) no_place (parts_of t.nodes n)
      → more ≡ out ++ mapping_edits t bytes gone n false ps → more ≡ out ++ node_edits t bytes gone n
  at_flow kind same is y told holds ps places e =
      not_block kind same is y told
      (e ∙ (ap (λ qs. out ++ mapping_edits t bytes gone n false qs) places
      ∙ ap (λ z. out ++ node_if false z) (sym holds)))

  pub at_other : (kind : ℕ) → kind ≡ kind_of t.nodes n → (kind ≡ MAP → ⊥) → (y : Bool)
      → y ≡ is_flow_mapping (class_in t.leaves) (kind_of t.nodes n) (kids_of t.nodes n) → y ≡ false
      → more ≡ out → more ≡ out ++ node_edits t bytes gone n
  at_other kind same is y told fails e =
      not_block kind same is y told
      (e ∙ (sym (append-nil out) ∙ ap (λ z. out ++ node_if false z) (sym fails)))

pub ruleset node_cases = (at_block, at_flow, at_other)

-- ---- what fits

-- a place holds a node before node n, and a comma of the tree
pub record IsPlaceIn (t : Arena) (n : ℕ) (p : Place) : Type 0 where
  pub comma_in : IfSome p.comma (λ l. l < length t.leaves)
  pub content_in : IfSome p.content (λ m. m.0 < n)

-- every place is such
abbrev pub AreIn : Arena → ℕ → List Place → Type 0
AreIn t n [] = Unit {0}
AreIn t n (p ∷ ps) = IsPlaceIn t n p × AreIn t n ps

-- every item is one of node n
abbrev pub AreItems : Arena → ℕ → List Item → Type 0
AreItems t n [] = Unit {0}
AreItems t n (i ∷ is) = IsItemOf t (spot.Node (record { 0 = n })) i × AreItems t n is

module _ (t : Arena) (n : ℕ) where
  block_in : (ps : List Part) → AreBelow (length t.leaves) n ps → AreIn t n (block_places ps)
  block_in [] below = tt
  block_in (part.Leaf l ∷ ps) below = block_in ps below.1
  block_in (part.Node m ∷ ps) below = (record { comma_in = tt; content_in = below.0 }, block_in ps below.1)

  flow_in : (class : ℕ → ℕ) (p : Place) (ps : List Part) → IsPlaceIn t n p → AreBelow (length t.leaves) n ps
      → AreIn t n (flow_places class p ps)
  flow_in class p [] is below = (is, tt)
  flow_in class p (part.Node m ∷ ps) is below =
      flow_in class (record { comma = p.comma; content = Some m }) ps (record { comma_in = is.comma_in; content_in = below.0 }) below.1
  flow_in class p (part.Leaf l ∷ ps) is below =
      by_test (class l == COMMA)
      (flow_in class (record { comma = Some l; content = None }) ps (record { comma_in = below.0; content_in = tt })
      below.1)
      (flow_in class p ps is below.1)
    where
      by_test : (c : Bool) → AreIn t n (flow_places class (record { comma = Some l; content = None }) ps)
          → AreIn t n (flow_places class p ps)
          → AreIn t n (if c then p ∷ flow_places class (record { comma = Some l; content = None }) ps
          else flow_places class p ps)
      by_test true h g = (is, h)
      by_test false h g = g

  filter_in : (f : Place → Bool) (ps : List Place) → AreIn t n ps → AreIn t n (filter f ps)
  filter_in f [] h = tt
  filter_in f (p ∷ ps) h = by_test (f p) (filter_in f ps h.1)
    where
      by_test : (b : Bool) → AreIn t n (filter f ps) → AreIn t n (cond b (p ∷ filter f ps) (filter f ps))
      by_test true g = (h.0, g)
      by_test false g = g

  items_both : (is js : List Item) → AreItems t n is → AreItems t n js → AreItems t n (is ++ js)
  items_both [] js h g = g
  items_both (i ∷ is) js h g = (h.0, items_both is js h.1 g)

  first_fit : (front : List ℕ) (p : Place) → IsPlaceIn t n p → AreItems t n (first_items front p)
  first_fit front p is = by_item p.content is.content_in
    where
      by_item : (o : Option NodeId) → IfSome o (λ m. m.0 < n)
          → AreItems t n (elim o [ None ↦ [] | Some m ↦ item.Text front ∷ item.NodeBody m ∷ [] ])
      by_item None h = tt
      by_item (Some m) h = (tt, (h, tt))

  place_fit : (p : Place) → IsPlaceIn t n p → AreItems t n (further_items p)
  place_fit p is =
      items_both (map (λ l. item.Leaf l) (option_to_list p.comma)) (map (λ m. item.Node m) (option_to_list p.content))
      (by_comma p.comma is.comma_in) (by_item p.content is.content_in)
    where
      by_comma : (o : Option ℕ) → IfSome o (λ l. l < length t.leaves)
          → AreItems t n (map (λ l. item.Leaf l) (option_to_list o))
      by_comma None h = tt
      by_comma (Some l) h = (h, tt)

      by_item : (o : Option NodeId) → IfSome o (λ m. m.0 < n)
          → AreItems t n (map (λ m. item.Node m) (option_to_list o))
      by_item None h = tt
      by_item (Some m) h = (h, tt)

  further_fit : (ps : List Place) → AreIn t n ps → AreItems t n (flat_map further_items ps)
  further_fit [] h = tt
  further_fit (p ∷ ps) h =
      items_both (further_items p) (flat_map further_items ps) (place_fit p h.0) (further_fit ps h.1)

  all_fit : (front : List ℕ) (ps : List Place) → AreIn t n ps → AreItems t n (items_of front ps)
  all_fit front [] h = tt
  all_fit front (p ∷ ps) h =
      items_both (first_items front p) (flat_map further_items ps) (first_fit front p h.0) (further_fit ps h.1)

  items_all : (is : List Item) → AreItems t n is → All (IsItemOf t (spot.Node (record { 0 = n }))) is
  items_all [] h = All-nil (IsItemOf t (spot.Node (record { 0 = n })))
  items_all (i ∷ is) h = All-cons (IsItemOf t (spot.Node (record { 0 = n }))) i is h.0 (items_all is h.1)

-- edits of nodes rise by their numbers
abbrev node_rank : Spot → ℕ
node_rank (spot.Node n) = n.0
node_rank (spot.Leaf i) = 0

ranked_earlier : (t : Arena) (a b : ℕ) (es : List Edit) → a ≤ b → AreRanked t node_rank b es
    → AreRanked t node_rank a es
unfolding AreRanked
ranked_earlier t a b [] le h = tt
ranked_earlier t a b (e ∷ es) le h = (omega (arith, le, h.0), h.1, h.2, h.3)

-- the kind of flow collections
abbrev FLOW : ℕ
FLOW = 8

-- what begins with a leaf has one
has_leaf : (t : Arena) (class : ℕ → ℕ) (sign : ℕ) (kids : Numbered) (a b : ℕ) → IsLaid t a kids b → (x : Bool)
    → (x && has_class class sign (leaf_first kids)) ≡ true → a < b
has_leaf t class sign kids a b h false e = absurd (cc)
has_leaf t class sign none a b h true e = absurd (cc)
has_leaf t class sign (node n kind kids f) a b h true e = absurd (cc)
has_leaf t class sign (leaf l f) a b h true e = omega (arith, laid_rises t (a + 1) f b h.2)

module _ (t : Arena) (tree : IsTree t) (bytes : List ℕ) (gone : ℕ → Bool) where
  items_fit : (n : ℕ) → n < length t.nodes → (block : Bool) → (block ≡ false → first_of t.nodes n < past_of t.nodes n)
      → (ps : List Place) → AreIn t n ps → AreItems t n (mapping_items t bytes gone n block ps)
  unfolding empty_mapping
  items_fit n lt block some ps h = by_tests (list_any has_content (staying gone ps)) block some
    where
      items : List Item
      items = items_of (first_front t bytes ps) (staying gone ps)

      fit : AreItems t n items
      fit = all_fit t n (first_front t bytes ps) (staying gone ps)
          (filter_in t n (λ p. not (goes gone p)) ps h)

      by_tests : (x y : Bool) → (y ≡ false → first_of t.nodes n < past_of t.nodes n)
          → AreItems t n (if x then (if y then items else in_braces t n items) else empty_mapping)
      by_tests false y some = (tt, tt)
      by_tests true true some = fit
      by_tests true false some =
          let less = some refl in
          let inside = tree.inside n lt in (
            omega (arith, less, inside),
            items_both t n items (item.Leaf (past_of t.nodes n - 1) ∷ []) fit
                (omega (arith, less, inside), tt),
          )

  mapping_ranked : (n : ℕ) → n < length t.nodes → (block : Bool)
      → (block ≡ false → first_of t.nodes n < past_of t.nodes n) → (ps : List Place) → AreIn t n ps
      → (rest : List Edit) → AreRanked t node_rank (n + 1) rest
      → AreRanked t node_rank n (mapping_edits t bytes gone n block ps ++ rest)
  unfolding AreRanked
  mapping_ranked n lt block some ps h rest ranked = by_test (list_any (goes gone) ps)
    where
      by_test : (x : Bool) → AreRanked t node_rank n ((if x
          then record { spot = spot.Node (record { 0 = n }); items = mapping_items t bytes gone n block ps } ∷ []
          else []) ++ rest)
      by_test true = (
        omega arith,
        lt,
        items_all t n (mapping_items t bytes gone n block ps)
            (items_fit n lt block some ps h),
        ranked,
      )
      by_test false = ranked_earlier t n (n + 1) rest (omega arith) ranked

  node_ranked : (n : ℕ) → n < length t.nodes → (rest : List Edit) → AreRanked t node_rank (n + 1) rest
      → AreRanked t node_rank n (node_edits t bytes gone n ++ rest)
  unfolding node_edits
  node_ranked n lt rest ranked =
      by_tests (kind_of t.nodes n == MAP)
      (is_flow_mapping (class_in t.leaves) (kind_of t.nodes n) (kids_of t.nodes n)) refl
    where
      class : ℕ → ℕ
      class = class_in t.leaves

      parts : List Part
      parts = parts_of t.nodes n

      by_tests : (x y : Bool) → is_flow_mapping (class_in t.leaves) (kind_of t.nodes n) (kids_of t.nodes n) ≡ y
          → AreRanked t node_rank n ((if x then mapping_edits t bytes gone n true (block_places (parts_of t.nodes n))
          else if y then mapping_edits t bytes gone n false
          (flow_places (class_in t.leaves) no_place (parts_of t.nodes n)) else []) ++ rest)
      by_tests true y e =
          mapping_ranked n lt true (λ wrong. absurd (cc)) (block_places (parts_of t.nodes n))
          (block_in t n (parts_of t.nodes n) (tree.below n lt)) rest ranked
      by_tests false true e =
          mapping_ranked n lt false
          (λ _. has_leaf t (class_in t.leaves) BRACE_OPEN (kids_of t.nodes n) (first_of t.nodes n) (past_of t.nodes n)
          (node_laid t tree n lt) (kind_of t.nodes n == FLOW) e)
          (flow_places (class_in t.leaves) no_place (parts_of t.nodes n))
          (flow_in t n (class_in t.leaves) no_place (parts_of t.nodes n) (record { comma_in = tt; content_in = tt })
          (tree.below n lt)) rest ranked
      by_tests false false e = ranked_earlier t n (n + 1) rest (omega arith) ranked

  all_ranked : (k n : ℕ) → k + n ≡ length t.nodes
      → AreRanked t node_rank k (flat_map (node_edits t bytes gone) (numbers k n))
  unfolding AreRanked
  all_ranked k zero e = tt
  all_ranked k (suc n) e =
      node_ranked k (omega (arith, e)) (flat_map (node_edits t bytes gone) (numbers (k + 1) n))
      (all_ranked (k + 1) n (omega (arith, e)))

  pub deletions_fit : AreEdits t (deletions t bytes gone)
  deletions_fit = ranked_are_edits t node_rank 0 (deletions t bytes gone) (all_ranked 0 (length t.nodes) (omega arith))

-- ---- which nodes go

pub same_deletions : (t : Arena) (bytes : List ℕ) (f g : ℕ → Bool) → ((m : ℕ) → f m ≡ g m)
    → deletions t bytes f ≡ deletions t bytes g
same_deletions t bytes f g same = λ i. deletions t bytes (λ m. same m i)

pub keys_deleted_fit : (t : Arena) → IsTree t → (bytes : List ℕ) (gone : ℕ → Bool) (es : List Edit)
    → es ≡ deletions t bytes gone → AreEdits t es
keys_deleted_fit t tree bytes gone es is = subst (AreEdits t) (sym is) (deletions_fit t tree bytes gone)

pub ruleset fit = (keys_deleted_fit)

-- marks with these nodes marked too
abbrev pub marked : List Bool → List NodeId → List Bool
marked ms [] = ms
marked ms (n ∷ ns) = marked (set ms n.0 true) ns

-- nodes have marks
abbrev pub HaveMarks : ℕ → List NodeId → Type 0
HaveMarks count ns = AllByRecursion (λ n. n.0 < count) ns

pub found_have_marks : (t : Arena) (a : ℕ) (ns : List NodeId) (b : ℕ) → AreFound t a ns b → HaveMarks (length t.nodes) ns
found_have_marks t a [] b h = tt
found_have_marks t a (n ∷ ns) b h = (h.1, found_have_marks t (past_of t.nodes n.0) ns b h.2)

pub marks_are : (ns : List NodeId) (ms : List Bool) → HaveMarks (length ms) ns → (m : ℕ)
    → get_or (marked ms ns) m false ≡ (get_or ms m false || is_among ns m)
marks_are [] ms h m = by_bit (get_or ms m false)
  where
    by_bit : (b : Bool) → b ≡ (b || false)
    by_bit true = refl
    by_bit false = refl
marks_are (n ∷ ns) ms h m =
    marks_are ns (set ms n.0 true) (subst (λ c. HaveMarks c ns) (sym (length-set ms n.0 true)) h.1) m
    ∙ by_place (cases_eq n.0 m)
  where
    by_place : (n.0 ≡ m) ⊎ (n.0 ≢ m)
        → (get_or (set ms n.0 true) m false || is_among ns m) ≡ (get_or ms m false || ((n.0 == m) || is_among ns m))
    by_place (inl e) =
        let bit : get_or (set ms n.0 true) m false ≡ true =
        ap (λ k. get_or (set ms n.0 true) k false) (sym e) ∙ get_or-set_same ms n.0 true false h.0 in
        ap (λ b. b || is_among ns m) bit
        ∙ (by_bit (get_or ms m false) ∙ ap (λ c. get_or ms m false || (c || is_among ns m)) (sym (eq-eqb n.0 m e)))
      where
        by_bit : (b : Bool) → true ≡ (b || true)
        by_bit true = refl
        by_bit false = refl
    by_place (inr d) =
        ap (λ b. b || is_among ns m) (get_or-set_other ms n.0 m true false (λ e. d (sym e)))
        ∙ ap (λ c. get_or ms m false || (c || is_among ns m)) (sym (ne_eqb n.0 m d))

no_mark : (count m : ℕ) → get_or (replicate count false) m false ≡ false
no_mark count m = by_bound (cases_lt m count)
  where
    by_bound : (m < count) ⊎ (count ≤ m) → get_or (replicate count false) m false ≡ false
    by_bound (inl lt) = get_or-replicate count m false false lt
    by_bound (inr le) =
        get_or_past (replicate count false) m false (omega (arith, le, length-replicate count false))

pub marks_start : (count : ℕ) (ns : List NodeId) (ms : List Bool) → ms ≡ replicate count false
    → HaveMarks count ns → (m : ℕ) → get_or (marked ms ns) m false ≡ is_among ns m
marks_start count ns ms e h m =
    let long : length ms ≡ count = ap length e ∙ length-replicate count false in
    marks_are ns ms (subst (λ c. HaveMarks c ns) (sym long) h) m
    ∙ ap (λ b. b || is_among ns m) (ap (λ xs. get_or xs m false) e ∙ no_mark count m)

pub marks_end : (ns : List NodeId) (ms : List Bool) (k : ℕ) → length ns ≤ k
    → ((m : ℕ) → get_or (marked ms (drop k ns)) m false ≡ is_among ns m) → (m : ℕ) → is_marked_in ms m ≡ is_among ns m
unfolding is_marked_in
marks_end ns ms k le are m = ap (λ xs. get_or (marked ms xs) m false) (sym (drop_all k ns le)) ∙ are m

pub mark_past : (marks : List Bool) (m : ℕ) → length marks ≤ m → false ≡ get_or marks m false
mark_past marks m le = sym (get_or_past marks m false le)

pub ruleset no_marks = (mark_past)

pub place_marked : (marks : List Bool) (p : Place) (m : NodeId) (b : Bool) → p.content ≡ Some m
    → b ≡ is_marked_in marks m.0 → b ≡ goes (is_marked_in marks) p
place_marked marks p m b here e =
    e ∙ sym (ap (λ (o : Option NodeId). elim o [ None ↦ false | Some m ↦ is_marked_in marks m.0 ]) here)

pub ruleset marked_places = (place_marked)
