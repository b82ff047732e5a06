-- Keys of YAML files that are joined by dots, from the root through mappings alone.
use Rattle.std.specs.Prelude.{ℕ, ◌+◌, ◌==◌, ◌||◌, Bool, true, false, List, [], ◌∷◌, ◌++◌, length, take, drop}
use Rattle.std.specs.Prelude.{Option, Some, None, if◌then◌else◌}
use Rattle.std.specs.Str.{bytes_eq}
use Rattle.rw_base.specs.declared.edit.Edit.{Edit}
use Rattle.rw_base.specs.Arena.{Arena}
use Rattle.rw_base.specs.Laid.{kids_of}
use Rattle.rw_base.specs.Trees.{Numbered, none, leaf, node}
use Rattle.rw_grammar.specs.Results.{class_in}
use Rattle.yaml_texts.specs.Spelled.{spelled}
use Rattle.conf_recipes.specs.declared.yaml_text.TheConstants.{MAP}
use Rattle.yaml_tree.specs.Entries.{key_in, is_flow_mapping}
use Rattle.yaml_tree.specs.Found.{is_marked, key_text}
use Rattle.conf_recipes.specs.YamlLeaves.{key_edit}

-- what is left of joined keys inside an entry with this key, where they begin with the key and a dot
abbrev pub behind_dot : List ℕ → Option (List ℕ)
behind_dot [] = None
behind_dot (b ∷ rest) = if b == 46 then Some rest else None

abbrev pub left_inside : List ℕ → List ℕ → Option (List ℕ)
left_inside key keys = if bytes_eq (take (length key) keys) key then behind_dot (drop (length key) keys) else None

-- The edits in the parts of a node, by whether it is a mapping, and by what is left of the old and of the new keys.
abbrev pub Inside : Type 0
Inside = Bool → List ℕ → List ℕ → List Edit

-- a mapping, of block or of flow style
abbrev pub is_mapping : Arena → ℕ → Numbered → Bool
is_mapping t kind kids = (kind == MAP) || is_flow_mapping (class_in t.leaves) kind kids

module _ (t : Arena) (bytes : List ℕ) where
  -- a key becomes a new one, where that can be spelled
  abbrev pub renamed : ℕ → List ℕ → Option (List ℕ) → List Edit
  renamed key new None = []
  renamed key new (Some plain) = key_edit bytes t plain new key ∷ []

  abbrev pub from_rests : Option (List ℕ) → Option (List ℕ) → Inside → List Edit
  from_rests (Some old) (Some new) inside = inside false old new
  from_rests (Some old) None inside = []
  from_rests None new inside = []

  -- An entry whose key is all that is left of the old keys gets what is left of the new ones as its key. In an entry
  -- whose key begins both the rest of both is left. A key without a text matches nothing, nor does anything below it.
  abbrev pub from_key : ℕ → List ℕ → List ℕ → Inside → Option (List ℕ) → List Edit
  from_key key old new inside None = []
  from_key key old new inside (Some text) =
      if bytes_eq text old then renamed key new (spelled new)
      else from_rests (left_inside text old) (left_inside text new) inside

  abbrev pub from_entry : List ℕ → List ℕ → Inside → Option ℕ → List Edit
  from_entry old new inside None = []
  from_entry old new inside (Some key) = from_key key old new inside (key_text bytes t.leaves key)

  -- The parts of a mapping are its entries. Any other node is one that leads to a mapping, or that begins with a mark,
  -- behind which a mapping may stand; no key leads through others.
  abbrev pub from_value : List ℕ → List ℕ → ℕ → Numbered → Inside → List Edit
  from_value old new kind kids inside =
      if is_mapping t kind kids then inside true old new
      else if is_marked kind then inside false old new
      else []

  abbrev pub from_part : Bool → List ℕ → List ℕ → ℕ → Numbered → Inside → List Edit
  from_part in_mapping old new kind kids inside =
      if in_mapping then from_entry old new inside (key_in (class_in t.leaves) true kind kids)
      else from_value old new kind kids inside

  unfoldable pub joined_keys_in : Numbered → Inside
  joined_keys_in none in_mapping old new = []
  joined_keys_in (leaf l f) in_mapping old new = joined_keys_in f in_mapping old new
  joined_keys_in (node n kind kids f) in_mapping old new =
      from_part in_mapping old new kind kids (joined_keys_in kids) ++ joined_keys_in f in_mapping old new
