-- Edits of keys and values in YAML files.
use Rattle.std.specs.Prelude.{ℕ, ◌+◌, ◌==◌, ◌&&◌, ◌||◌, not, Bool, true, List, [], ◌∷◌, map, drop, slice_get}
use Rattle.std.specs.Prelude.{Option, Some, None, if◌then◌else◌}
use Rattle.std.specs.List.{flat_map}
use Rattle.std.specs.Option.{option_to_list}
use Rattle.rw_base.specs.declared.edit.Edit.{Edit}
use Rattle.rw_base.specs.declared.edit.Item.TheVariants as item
use Rattle.rw_base.specs.declared.edit.Spot.TheVariants as spot
use Rattle.rw_base.specs.declared.tree.Leaf.{Leaf}
use Rattle.rw_base.specs.declared.tree.NodeId.{NodeId}
use Rattle.rw_base.specs.Arena.{Arena, kind_of, leaf_at, text_of}
use Rattle.rw_base.specs.Laid.{kids_of}
use Rattle.rw_base.specs.Trees.{Numbered, none, leaf}
use Rattle.rw_grammar.specs.Results.{class_in}
use Rattle.yaml_lex.specs.Characters.{begins, is_quote, is_white, is_flow_sign}
use Rattle.yaml_lex.specs.declared.class.TheConstants.{SCALAR, FSCALAR}
use Rattle.yaml_texts.specs.Spelled.{in_quotes}
use Rattle.yaml_tree.specs.declared.entry.EntryView.{EntryView}
use Rattle.yaml_tree.specs.declared.key_path.PathStep.{PathStep}
use Rattle.yaml_tree.specs.Entries.{own_entry}
use Rattle.yaml_tree.specs.Found.{found_in}

-- ---- entries and leaves

-- the entry that a node is
abbrev pub entry_at : Arena → NodeId → List EntryView
entry_at t n = own_entry (class_in t.leaves) true n.0 (kind_of t.nodes n.0) (kids_of t.nodes n.0)

-- the entries that a path finds
abbrev pub entries_found : List ℕ → List PathStep → Arena → List EntryView
entries_found bytes path t = flat_map (entry_at t) (found_in bytes path t)

-- the edit that puts a text in the place of a leaf's
abbrev pub text_at : ℕ → List ℕ → Edit
text_at i text = record { spot = spot.Leaf i; items = item.Text text ∷ [] }

-- ---- keys

-- the bytes behind a leaf
abbrev pub bytes_behind : List ℕ → Option Leaf → List ℕ
bytes_behind bytes None = []
bytes_behind bytes (Some l) = drop l.to bytes

-- a text begins with something that isn't a blank, a line end or one of , [ ] { }
abbrev pub is_joined : List ℕ → Bool
is_joined = begins (λ b. not (is_white b || is_flow_sign b))

-- The key is quoted, and its colon, the leaf behind it, has something joined to it that only a quoted key may have.
unfoldable pub wants_quotes : List ℕ → List Leaf → ℕ → Bool
wants_quotes bytes leaves key =
    begins is_quote (text_of bytes (leaf_at leaves key)) && is_joined (bytes_behind bytes (slice_get leaves (key + 1)))

-- A key becomes a new one, as it is spelled, or in quotes where it wants them.
unfoldable pub key_edit : List ℕ → Arena → List ℕ → List ℕ → ℕ → Edit
key_edit bytes t plain new key =
    text_at key (if wants_quotes bytes t.leaves key then in_quotes new else plain)

-- the same for the key of an entry
unfoldable pub entry_key_edit : List ℕ → Arena → List ℕ → List ℕ → EntryView → Edit
entry_key_edit bytes t plain new e = key_edit bytes t plain new e.key_leaf

-- ---- values

-- a class of scalars, plain or quoted
abbrev pub is_scalar : ℕ → Bool
is_scalar class = (class == SCALAR) || (class == FSCALAR)

-- the leaf of a node that is one scalar
abbrev pub lone_leaf : (ℕ → ℕ) → Numbered → Option ℕ
lone_leaf class (leaf l none) = if is_scalar (class l) then Some l else None
lone_leaf class _ = None

abbrev pub value_leaf : Arena → Option NodeId → Option ℕ
value_leaf t None = None
value_leaf t (Some m) = lone_leaf (class_in t.leaves) (kids_of t.nodes m.0)

-- the edit of an entry whose value is one scalar
abbrev pub value_edits : Arena → List ℕ → EntryView → List Edit
value_edits t text e = map (λ l. text_at l text) (option_to_list (value_leaf t e.value))
