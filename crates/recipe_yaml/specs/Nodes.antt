-- Nodes of YAML as recipe files use them, over trees as plain data.
use Rattle.std.specs.Prelude.{ℕ, ◌-◌, ◌==◌, ◌||◌, Bool, List, [], ◌∷◌, Option, Some, None, if◌then◌else◌}
use Rattle.rw_base.specs.declared.tree.NodeId.{NodeId}
use Rattle.rw_base.specs.Trees.{Numbered, none, leaf, node}
use Rattle.rw_base.specs.Arena.{Arena, kind_of, first_of, past_of}
use Rattle.rw_base.specs.Laid.{kids_of}
use Rattle.rw_grammar.specs.Results.{class_in}
use Rattle.yaml_lex.specs.declared.class.TheConstants.{ALIAS, BRACE_OPEN, FSCALAR}
use Rattle.yaml_tree.specs.Entries.{behind, leaf_first, node_first, has_class, of_class}
use Rattle.yaml_tree.specs.Scalars.{scalar_of}
use Rattle.recipe_yaml.specs.declared.node.Slot.{Slot}
use Rattle.recipe_yaml.specs.declared.node.Value.{Value}
use Rattle.recipe_yaml.specs.declared.node.Value.TheVariants as value
use Rattle.recipe_yaml.specs.declared.kinds.TheConstants.{DOC_PART, NODE, CONTENT, MAP, ENTRY, SEQ, ITEM, FLOW, FITEM}
use Rattle.recipe_yaml.specs.declared.kinds.TheConstants.{FNODE, FCONTENT}

-- the nodes among trees, in order
abbrev pub nodes_in : Numbered → List NodeId
nodes_in none = []
nodes_in (leaf l f) = nodes_in f
nodes_in (node n kind kids f) = record { 0 = n } ∷ nodes_in f

module _ (t : Arena) where
  -- ---- the parts of a node

  -- the nodes directly in it, and its part of a number, if that is a leaf or a node
  abbrev pub nodes_of : NodeId → List NodeId
  nodes_of n = nodes_in (kids_of t.nodes n.0)

  abbrev pub leaf_part : NodeId → ℕ → Option ℕ
  leaf_part n k = leaf_first (behind k (kids_of t.nodes n.0))

  abbrev pub node_part : NodeId → ℕ → Option NodeId
  node_part n k = node_first (behind k (kids_of t.nodes n.0))

  abbrev pub kind_at : NodeId → ℕ
  kind_at n = kind_of t.nodes n.0

  -- The leaf with which a node in another begins. Where there is none, the leaf behind the other one: there it would
  -- begin.
  abbrev pub beginning : Slot → ℕ
  beginning s = elim s.node [ Some n ↦ first_of t.nodes n.0 | None ↦ past_of t.nodes s.outer.0 ]

  -- an anchor may stand before any node
  abbrev pub has_anchor : NodeId → Bool
  has_anchor n = (kind_at n == NODE) || (kind_at n == FNODE)

  unfoldable pub behind_anchor : Slot → Slot
  behind_anchor s = elim s.node [
    | None ↦ s
    | Some n ↦ if has_anchor n then record { outer = n; node = node_part n 1 } else s
  ]

  -- Where a value is missing or is none that can stand: the leaf behind the colon or the dash, or behind its anchor.
  abbrev pub value_leaf : Slot → ℕ
  value_leaf s = beginning (behind_anchor s)

  -- ---- mappings

  -- whether a flow collection is a mapping
  abbrev pub is_flow_mapping : NodeId → Bool
  is_flow_mapping n = has_class (class_in t.leaves) BRACE_OPEN (leaf_part n 0)

  -- the key of a node in a mapping, where it is an entry: in a flow mapping, one with a colon behind a scalar alone
  abbrev pub scalar_leaf : NodeId → Option ℕ
  scalar_leaf n =
      if kind_at n == FCONTENT then of_class (class_in t.leaves) FSCALAR (leaf_part n 0) else None

  unfoldable pub entry_key : NodeId → Option ℕ
  entry_key n =
      if kind_at n == ENTRY then leaf_part n 0
      else if kind_at n == FITEM then elim (node_part n 0) [ Some first ↦ scalar_leaf first | None ↦ None ]
      else None

  -- its value
  abbrev pub entry_value : NodeId → Slot
  entry_value n = record { outer = n; node = node_part n 2 }

  -- Where a node in a mapping must be an entry and is none, the leaf that can't stand: behind a scalar alone the leaf
  -- where its colon would be, else the node's first.
  unfoldable pub stray_leaf : NodeId → ℕ
  stray_leaf n = elim (scalar_leaf n) [ Some l ↦ past_of t.nodes n.0 | None ↦ first_of t.nodes n.0 ]

  -- the leaf that ends a mapping
  abbrev pub last_leaf : NodeId → ℕ
  last_leaf n = past_of t.nodes n.0 - 1

  -- ---- sequences

  -- An item of a sequence: what stands behind the dash, and in a flow sequence the node itself. Where such an item goes
  -- on with a colon, its first part.
  unfoldable pub item_value : NodeId → Slot
  item_value n =
      if kind_at n == ITEM then record { outer = n; node = node_part n 1 }
      else if kind_at n == FITEM then record { outer = n; node = node_part n 0 }
      else record { outer = n; node = Some n }

  -- that colon, which can't stand
  unfoldable pub item_colon : NodeId → Option ℕ
  item_colon n = if kind_at n == FITEM then leaf_part n 1 else None

  -- the first leaf with text of a sequence: the bracket, or the dash of the first item
  unfoldable pub sequence_leaf : NodeId → ℕ
  sequence_leaf n =
      if kind_at n == SEQ then beginning (record { outer = n; node = node_part n 1 }) else first_of t.nodes n.0

  -- ---- documents

  -- the value of a document, which may begin with `---`
  unfoldable pub document_value : NodeId → Slot
  document_value n =
      if kind_at n == DOC_PART then record { outer = n; node = node_part n 1 } else record { outer = n; node = Some n }

module _ (bytes : List ℕ) (t : Arena) where
  -- what a leaf says as a scalar, which an alias isn't
  unfoldable pub scalar_value : Option ℕ → Value
  scalar_value None = value.Other
  scalar_value (Some l) =
      if class_in t.leaves l == ALIAS then value.Other
      else elim (scalar_of bytes t l) [ Some text ↦ value.Scalar text | None ↦ value.Other ]

  -- what a node is
  unfoldable pub node_value : NodeId → Value
  node_value n =
      if (kind_at t n == CONTENT) || (kind_at t n == FCONTENT) then scalar_value (leaf_part t n 0)
      else if kind_at t n == MAP then value.Mapping n
      else if kind_at t n == SEQ then value.Sequence n
      else if kind_at t n == FLOW then
      (if is_flow_mapping t n then value.Mapping n else value.Sequence n)
      else value.Other

  -- and what stands at a place, behind its anchor
  unfoldable pub value_at : Slot → Value
  value_at s = elim (behind_anchor t s).node [ Some n ↦ node_value n | None ↦ value.Other ]
