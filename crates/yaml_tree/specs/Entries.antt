-- The entries of mappings, over trees as plain data: the pairs of key and value of block mappings (YAML 1.2, chapter
-- 8.2.2), and in braces (7.4.2) the items that have a colon and one scalar as their key.
use Rattle.std.specs.Prelude.{ℕ, zero, suc, ◌==◌, ◌&&◌, Bool, false, List, [], ◌∷◌, ◌++◌, Option, Some, None}
use Rattle.std.specs.Prelude.{if◌then◌else◌}
use Rattle.rw_base.specs.declared.tree.NodeId.{NodeId}
use Rattle.rw_base.specs.Trees.{Numbered, none, leaf, node}
use Rattle.rw_base.specs.Arena.{Arena, kind_of}
use Rattle.rw_base.specs.Laid.{kids_of}
use Rattle.rw_grammar.specs.Results.{class_in}
use Rattle.yaml_lex.specs.declared.class.TheConstants.{BRACE_OPEN, FSCALAR}
use Rattle.yaml_tree.specs.declared.entry.TheConstants.{ENTRY, FLOW, FITEM, FCONTENT}
use Rattle.yaml_tree.specs.declared.entry.EntryView.{EntryView}

-- ---- parts of a node

-- the trees behind the first k
abbrev pub behind : ℕ → Numbered → Numbered
behind zero f = f
behind (suc k) none = none
behind (suc k) (leaf l f) = behind k f
behind (suc k) (node n kind kids f) = behind k f

-- the first of the trees, if it is a leaf, and if it is a node
abbrev pub leaf_first : Numbered → Option ℕ
leaf_first (leaf l f) = Some l
leaf_first (node n kind kids f) = None
leaf_first none = None

abbrev pub node_first : Numbered → Option NodeId
node_first (node n kind kids f) = Some (record { 0 = n })
node_first (leaf l f) = None
node_first none = None

-- ---- the entry of one node

module _ (class : ℕ → ℕ) where
  abbrev pub has_class : ℕ → Option ℕ → Bool
  has_class c None = false
  has_class c (Some l) = class l == c

  abbrev pub of_class : ℕ → Option ℕ → Option ℕ
  of_class c None = None
  of_class c (Some l) = if class l == c then Some l else None

  -- a flow mapping: what stands in braces
  abbrev pub is_flow_mapping : ℕ → Numbered → Bool
  is_flow_mapping kind kids = (kind == FLOW) && has_class BRACE_OPEN (leaf_first kids)

  -- the key of an item of a flow mapping: its first part, where that is a scalar alone
  abbrev pub lone_scalar : Numbered → Option ℕ
  lone_scalar (node n kind kids f) = if kind == FCONTENT then of_class FSCALAR (leaf_first kids) else None
  lone_scalar (leaf l f) = None
  lone_scalar none = None

  -- The key of a node, if it is an entry: that of an entry of a block mapping, or of an item with a colon directly in
  -- a flow mapping.
  abbrev pub key_in : Bool → ℕ → Numbered → Option ℕ
  key_in in_mapping kind kids =
      if kind == ENTRY then leaf_first kids
      else if in_mapping && (kind == FITEM) then lone_scalar kids
      else None

  -- behind the key and the colon stands the value, if there is one
  abbrev pub with_key : ℕ → ℕ → Numbered → Option ℕ → List EntryView
  with_key n kind kids None = []
  with_key n kind kids (Some key) =
      record {
        node = record { 0 = n };
        key_leaf = key;
        value = node_first (behind 2 kids);
        flow = kind == FITEM;
      } ∷ []

  abbrev pub own_entry : Bool → ℕ → ℕ → Numbered → List EntryView
  own_entry in_mapping n kind kids = with_key n kind kids (key_in in_mapping kind kids)

  -- ---- all entries

  -- the entries of trees, each before those in it
  unfoldable pub entries_in : Bool → Numbered → List EntryView
  entries_in in_mapping none = []
  entries_in in_mapping (leaf l f) = entries_in in_mapping f
  entries_in in_mapping (node n kind kids f) =
      own_entry in_mapping n kind kids
      ++ (entries_in (is_flow_mapping kind kids) kids ++ entries_in in_mapping f)

  -- those of a node: its own and those in it
  abbrev pub node_entries : Bool → ℕ → ℕ → Numbered → List EntryView
  node_entries in_mapping n kind kids =
      own_entry in_mapping n kind kids ++ entries_in (is_flow_mapping kind kids) kids

-- the entries of a tree, in the order of their keys
abbrev pub entries_of : Arena → List EntryView
entries_of t = node_entries (class_in t.leaves) false t.root (kind_of t.nodes t.root) (kids_of t.nodes t.root)
