-- What a key path finds in a tree, over trees as plain data.
use Rattle.std.specs.Prelude.{ℕ, ◌==◌, ◌&&◌, ◌||◌, Bool, true, false, List, [], ◌∷◌, ◌++◌, Option, Some, None}
use Rattle.std.specs.Prelude.{if◌then◌else◌}
use Rattle.std.specs.Str.{bytes_eq}
use Rattle.rw_base.specs.declared.tree.NodeId.{NodeId}
use Rattle.rw_base.specs.Trees.{Numbered, none, leaf, node}
use Rattle.rw_base.specs.declared.tree.Leaf.{Leaf}
use Rattle.rw_base.specs.Arena.{Arena, leaf_at, text_of}
use Rattle.rw_base.specs.Laid.{kids_of}
use Rattle.rw_grammar.specs.Results.{class_in}
use Rattle.yaml_lex.specs.declared.class.TheConstants.{BRACKET_OPEN}
use Rattle.yaml_texts.specs.Texts.{scalar_text}
use Rattle.yaml_tree.specs.declared.entry.TheConstants.{FLOW}
use Rattle.yaml_tree.specs.declared.finding.TheConstants.{DOC_PART, NODE, SEQ, ITEM, FNODE}
use Rattle.yaml_tree.specs.declared.key_path.PathStep.{PathStep}
use Rattle.yaml_tree.specs.declared.key_path.PathStep.TheVariants.{Name, AnyName, AnyItem}
use Rattle.yaml_tree.specs.Entries.{behind, leaf_first, has_class, is_flow_mapping, key_in}

-- What is found from one node, by its kind and its trees.
abbrev pub Search : Type 0
Search = ℕ → Numbered → List NodeId

-- f at the first of the trees, if it is a node
abbrev pub at_first : Search → Numbered → List NodeId
at_first f none = []
at_first f (leaf l g) = []
at_first f (node n kind kids g) = f kind kids

-- f at each of the trees that is a node, in order
abbrev pub at_each : Search → Numbered → List NodeId
at_each f none = []
at_each f (leaf l g) = at_each f g
at_each f (node n kind kids g) = f kind kids ++ at_each f g

-- A node that begins with a mark: a document with `---`, an item with a dash, a value with an anchor.
abbrev pub is_marked : ℕ → Bool
is_marked kind = (kind == DOC_PART) || (kind == ITEM) || (kind == NODE) || (kind == FNODE)

-- f at a node, or where it begins with a mark, at what stands behind that
abbrev pub at_inner : Search → Search
at_inner f kind kids = if is_marked kind then at_first f (behind 1 kids) else f kind kids

abbrev pub is_any_item : PathStep → Bool
is_any_item (Name name) = false
is_any_item AnyName = false
is_any_item AnyItem = true

-- the text is this one
abbrev pub is_text : List ℕ → Option (List ℕ) → Bool
is_text name None = false
is_text name (Some text) = bytes_eq text name

-- the class of each leaf
module _ (class : ℕ → ℕ) where
  -- a sequence in brackets, and any
  abbrev pub is_flow_sequence : ℕ → Numbered → Bool
  is_flow_sequence kind kids = (kind == FLOW) && has_class class BRACKET_OPEN (leaf_first kids)

  abbrev pub is_sequence : ℕ → Numbered → Bool
  is_sequence kind kids = (kind == SEQ) || is_flow_sequence kind kids

  abbrev pub at_items : Search → Search
  at_items f kind kids = if is_sequence kind kids then at_each (at_inner f) kids else []

-- the class of each leaf, and the decoded text of each leaf that is a key, if it has one
module _ (class : ℕ → ℕ) (text : ℕ → Option (List ℕ)) where
  -- there is a key, and the step goes by it
  abbrev pub goes_by : PathStep → Option ℕ → Bool
  goes_by (Name name) (Some key) = is_text name (text key)
  goes_by (Name name) None = false
  goes_by AnyName (Some key) = true
  goes_by AnyName None = false
  goes_by AnyItem key = false

  -- What is found from an entry: the last step of a path finds the entry itself, another goes on at its value, which
  -- stands behind key and colon.
  abbrev pub from_entry : List PathStep → Search → ℕ → Numbered → List NodeId
  from_entry [] f n kids = record { 0 = n } ∷ []
  from_entry (step ∷ steps) f n kids = at_first f (behind 2 kids)

  -- from the entries among trees by which a step goes
  abbrev pub from_entries : PathStep → List PathStep → Search → Bool → Numbered → List NodeId
  from_entries step steps f in_mapping none = []
  from_entries step steps f in_mapping (leaf l g) = from_entries step steps f in_mapping g
  from_entries step steps f in_mapping (node n kind kids g) =
      (if goes_by step (key_in class in_mapping kind kids) then from_entry steps f n kids else [])
      ++ from_entries step steps f in_mapping g

  -- what a step finds from a node, where f is what the steps behind it find
  abbrev pub from_node : PathStep → List PathStep → Search → Search
  from_node step steps f kind kids =
      if is_any_item step then at_items class f kind kids
      else from_entries step steps f (is_flow_mapping class kind kids) kids

  -- what steps find from a value
  unfoldable pub found : List PathStep → Search
  found [] kind kids = []
  found (step ∷ steps) kind kids = at_inner (from_node step steps (found steps)) kind kids

-- the decoded text of a key, by its leaf; a key is no block scalar, so what stands around it doesn't matter
abbrev pub key_text : List ℕ → List Leaf → ℕ → Option (List ℕ)
key_text bytes leaves i = scalar_text (class_in leaves i) None (text_of bytes (leaf_at leaves i)) []

-- what a path finds in the tree of these bytes: from the value of each document
abbrev pub found_in : List ℕ → List PathStep → Arena → List NodeId
found_in bytes path t =
    at_each (at_inner (found (class_in t.leaves) (key_text bytes t.leaves) path)) (kids_of t.nodes t.root)
