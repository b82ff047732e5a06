-- Entries that go from the mappings of YAML files.
use Rattle.std.specs.Prelude.{ℕ, ◌-◌, ◌==◌, not, Bool, true, false}
use Rattle.std.specs.Prelude.{List, [], ◌∷◌, ◌++◌, length, map, filter, slice_index_or}
use Rattle.std.specs.Prelude.{Option, Some, None, if◌then◌else◌}
use Rattle.std.specs.List.{flat_map, list_any}
use Rattle.std.specs.Option.{option_to_list}
use Rattle.rw_base.specs.declared.edit.Edit.{Edit}
use Rattle.rw_base.specs.declared.edit.Item.{Item}
use Rattle.rw_base.specs.declared.edit.Item.TheVariants as item
use Rattle.rw_base.specs.declared.edit.Spot.TheVariants as spot
use Rattle.rw_base.specs.declared.tree.NodeId.{NodeId}
use Rattle.rw_base.specs.declared.tree.Part.{Part}
use Rattle.rw_base.specs.declared.tree.Part.TheVariants as part
use Rattle.rw_base.specs.Arena.{Arena, kind_of, first_of, past_of, parts_of}
use Rattle.rw_base.specs.Laid.{kids_of}
use Rattle.rw_base.specs.NewText.{front_of}
use Rattle.rw_base.specs.Trees.{numbers}
use Rattle.rw_grammar.specs.Results.{class_in}
use Rattle.yaml_lex.specs.declared.class.TheConstants.{COMMA}
use Rattle.conf_recipes.specs.declared.yaml_text.TheConstants.{MAP}
use Rattle.yaml_tree.specs.Entries.{is_flow_mapping}
use Rattle.conf_recipes.specs.declared.yaml_deletions.Place.{Place}

-- ---- the places of a mapping

-- of a block mapping: its entries
abbrev pub block_place : Part → List Place
block_place (part.Leaf l) = []
block_place (part.Node m) = record { comma = None; content = Some m } ∷ []

abbrev pub block_places : List Part → List Place
block_places ps = flat_map block_place ps

-- Of a flow mapping: what stands before, between and behind its commas, each with the comma before it. A place may be
-- empty. The first of the places here has begun.
abbrev pub flow_places : (ℕ → ℕ) → Place → List Part → List Place
flow_places class p [] = p ∷ []
flow_places class p (part.Leaf l ∷ ps) =
    if class l == COMMA then p ∷ flow_places class (record { comma = Some l; content = None }) ps
    else flow_places class p ps
flow_places class p (part.Node m ∷ ps) = flow_places class (record { comma = p.comma; content = Some m }) ps

abbrev pub no_place : Place
no_place = record { comma = None; content = None }

-- ---- what stays of a mapping

abbrev pub has_content : Place → Bool
has_content p = elim p.content [ None ↦ false | Some m ↦ true ]

-- the prefix of the first place
abbrev pub first_front : Arena → List ℕ → List Place → List ℕ
first_front t bytes [] = []
first_front t bytes (p ∷ ps) = elim p.content [ None ↦ [] | Some m ↦ front_of t bytes m.0 ]

-- The first place that stays takes the first prefix, and goes without its comma.
abbrev pub first_items : List ℕ → Place → List Item
first_items front p = elim p.content [ None ↦ [] | Some m ↦ item.Text front ∷ item.NodeBody m ∷ [] ]

-- each other place has its comma before it
abbrev pub further_items : Place → List Item
further_items p =
    map (λ l. item.Leaf l) (option_to_list p.comma) ++ map (λ m. item.Node m) (option_to_list p.content)

abbrev pub items_of : List ℕ → List Place → List Item
items_of front [] = []
items_of front (p ∷ ps) = first_items front p ++ flat_map further_items ps

-- the same between the first and the last leaf of node n
abbrev pub in_braces : Arena → ℕ → List Item → List Item
in_braces t n items = item.Leaf (first_of t.nodes n) ∷ (items ++ item.Leaf (past_of t.nodes n - 1) ∷ [])

-- space { }
unfoldable pub empty_mapping : List Item
empty_mapping = item.Text (32 ∷ 123 ∷ 125 ∷ []) ∷ []

-- whether each node goes
module _ (gone : ℕ → Bool) where
  abbrev pub goes : Place → Bool
  goes p = elim p.content [ None ↦ false | Some m ↦ gone m.0 ]

  abbrev pub staying : List Place → List Place
  staying ps = filter (λ p. not (goes p)) ps

module _ (t : Arena) (bytes : List ℕ) (gone : ℕ → Bool) where
  -- The edit of mapping n, where some place of it goes: where nothing stays but empty places, it becomes an empty one.
  abbrev pub mapping_items : ℕ → Bool → List Place → List Item
  mapping_items n block ps =
      let items = items_of (first_front t bytes ps) (staying gone ps) in
      if list_any has_content (staying gone ps) then (if block then items else in_braces t n items)
      else empty_mapping

  abbrev pub mapping_edits : ℕ → Bool → List Place → List Edit
  mapping_edits n block ps =
      if list_any (goes gone) ps
      then record { spot = spot.Node (record { 0 = n }); items = mapping_items n block ps } ∷ []
      else []

  -- the edit of a node, if it is a mapping
  unfoldable pub node_edits : ℕ → List Edit
  node_edits n =
      if kind_of t.nodes n == MAP then mapping_edits n true (block_places (parts_of t.nodes n))
      else if is_flow_mapping (class_in t.leaves) (kind_of t.nodes n) (kids_of t.nodes n)
      then mapping_edits n false (flow_places (class_in t.leaves) no_place (parts_of t.nodes n))
      else []

  -- the edits of all mappings, in the order of the nodes
  abbrev pub deletions : List Edit
  deletions = flat_map node_edits (numbers 0 (length t.nodes))

-- the nodes that are marked, and those that are among these
unfoldable pub is_marked_in : List Bool → ℕ → Bool
is_marked_in marks m = slice_index_or marks m false

abbrev pub is_among : List NodeId → ℕ → Bool
is_among ns m = list_any (λ n. n.0 == m) ns
