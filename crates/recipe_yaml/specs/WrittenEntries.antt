-- The entries of the lists of a recipe document, and their options. Each word says what comes of a part of a document:
-- what it is, or the first leaf in it that can't stand there.
use Rattle.std.specs.Prelude.{ℕ, Bool, true, false, List, [], ◌∷◌, Some, None, Ok, Err, if◌then◌else◌}
use Rattle.std.specs.List.{list_any}
use Rattle.std.specs.Str.{bytes_eq}
use Rattle.rw_base.specs.declared.place.Place.{Place}
use Rattle.rw_base.specs.declared.tree.NodeId.{NodeId}
use Rattle.rw_base.specs.Arena.{Arena, leaf_at, first_of}
use Rattle.rw_base.specs.Places.{place_at}
use Rattle.yaml_tree.specs.Scalars.{scalar_of}
use Rattle.recipe_yaml.specs.declared.book.WrittenEntry.{WrittenEntry}
use Rattle.recipe_yaml.specs.declared.book.WrittenOption.{WrittenOption}
use Rattle.recipe_yaml.specs.declared.fault.RecipeFault.TheVariants.{Wrong}
use Rattle.recipe_yaml.specs.declared.node.Slot.{Slot}
use Rattle.recipe_yaml.specs.declared.node.Value.TheVariants as value
use Rattle.recipe_yaml.specs.Checked.{Checked, ◌>>=◌, each, one_more}
use Rattle.recipe_yaml.specs.Nodes.{nodes_of, value_leaf, entry_key, entry_value, stray_leaf, last_leaf}
use Rattle.recipe_yaml.specs.Nodes.{item_value, item_colon, sequence_leaf, value_at}

-- whether one of the options has this key
abbrev pub has_option : List ℕ → List WrittenOption → Bool
has_option name options = list_any (λ o. bytes_eq o.key name) options

module _ (bytes : List ℕ) (t : Arena) where
  -- where the text of a leaf begins
  abbrev pub leaf_place : ℕ → Place
  leaf_place l = place_at bytes (leaf_at t.leaves l).from

  -- fault 2, that a leaf can't stand
  abbrev pub cannot_stand : {A : Type 0} → ℕ → Checked A
  cannot_stand l = Err (Wrong 2 (Some (leaf_place l)))

  -- what isn't there before may come
  abbrev pub once : Bool → ℕ → Checked (Unit {0})
  once before l = if before then cannot_stand l else Ok tt

  -- ---- scalars, and lists of scalars

  unfoldable pub text_at : Slot → Checked (List ℕ)
  text_at s = elim (value_at bytes t s) [
    | value.Scalar text ↦ Ok text
    | value.Mapping n ↦ cannot_stand (value_leaf t s)
    | value.Sequence n ↦ cannot_stand (value_leaf t s)
    | value.Other ↦ cannot_stand (value_leaf t s)
  ]

  -- an item ends behind its value
  unfoldable pub item_ends : NodeId → Checked (Unit {0})
  item_ends n = elim (item_colon t n) [ Some colon ↦ cannot_stand colon | None ↦ Ok tt ]

  unfoldable pub item_text : NodeId → Checked (List ℕ)
  item_text n = do
    text ← text_at (item_value t n)
    end ← item_ends n
    Ok text

  abbrev pub with_text : List (List ℕ) → NodeId → Checked (List (List ℕ))
  with_text before n = one_more before (item_text n)

  -- the texts of all items
  abbrev pub texts : List NodeId → Checked (List (List ℕ))
  texts ns = each with_text [] ns

  -- ---- options

  -- the key of a node in a mapping of options or of a recipe's name, and what it says
  unfoldable pub key_leaf : NodeId → Checked ℕ
  key_leaf n = elim (entry_key t n) [ Some key ↦ Ok key | None ↦ cannot_stand (stray_leaf t n) ]

  unfoldable pub key_text : ℕ → Checked (List ℕ)
  key_text key = elim (scalar_of bytes t key) [ Some text ↦ Ok text | None ↦ cannot_stand key ]

  abbrev pub option_of : List ℕ → ℕ → List (List ℕ) → Bool → ℕ → WrittenOption
  option_of name key values is_list at = record {
    key = name;
    key_place = leaf_place key;
    values = values;
    is_list = is_list;
    value_place = leaf_place at;
  }

  -- an option with its key: a scalar or a sequence of scalars
  unfoldable pub option_at : List ℕ → ℕ → Slot → Checked WrittenOption
  option_at name key s = elim (value_at bytes t s) [
    | value.Scalar text ↦ Ok (option_of name key (text ∷ []) false (value_leaf t s))
    | value.Sequence n ↦ texts (nodes_of t n) >>= λ values. Ok (option_of name key values true (sequence_leaf t n))
    | value.Mapping n ↦ cannot_stand (value_leaf t s)
    | value.Other ↦ cannot_stand (value_leaf t s)
  ]

  -- an option behind others, none of which has its key
  unfoldable pub written_option : List WrittenOption → NodeId → Checked WrittenOption
  written_option before n = do
    key ← key_leaf n
    name ← key_text key
    new ← once (has_option name before) key
    option_at name key (entry_value t n)

  abbrev pub with_option : List WrittenOption → NodeId → Checked (List WrittenOption)
  with_option before n = one_more before (written_option before n)

  unfoldable pub options_at : Slot → Checked (List WrittenOption)
  options_at s = elim (value_at bytes t s) [
    | value.Mapping n ↦ each with_option [] (nodes_of t n)
    | value.Sequence n ↦ cannot_stand (value_leaf t s)
    | value.Scalar text ↦ cannot_stand (value_leaf t s)
    | value.Other ↦ cannot_stand (value_leaf t s)
  ]

  -- ---- entries

  abbrev pub entry_of : List ℕ → ℕ → List WrittenOption → WrittenEntry
  entry_of name at os = record { name = name; place = leaf_place at; options = os }

  -- nothing more stands in a mapping
  unfoldable pub nothing_more : List NodeId → Checked (Unit {0})
  nothing_more [] = Ok tt
  nothing_more (n ∷ ns) = cannot_stand (first_of t.nodes n.0)

  -- a mapping with one name, whose value are the options
  unfoldable pub named : NodeId → List NodeId → Checked WrittenEntry
  named mapping [] = cannot_stand (last_leaf t mapping)
  named mapping (n ∷ ns) = do
    key ← key_leaf n
    name ← key_text key
    os ← options_at (entry_value t n)
    end ← nothing_more ns
    Ok (entry_of name key os)

  -- a recipe's name alone, or such a mapping
  unfoldable pub entry_at : Slot → Checked WrittenEntry
  entry_at s = elim (value_at bytes t s) [
    | value.Scalar name ↦ Ok (entry_of name (value_leaf t s) [])
    | value.Mapping n ↦ named n (nodes_of t n)
    | value.Sequence n ↦ cannot_stand (value_leaf t s)
    | value.Other ↦ cannot_stand (value_leaf t s)
  ]

  unfoldable pub item_entry : NodeId → Checked WrittenEntry
  item_entry n = do
    e ← entry_at (item_value t n)
    end ← item_ends n
    Ok e

  abbrev pub with_entry : List WrittenEntry → NodeId → Checked (List WrittenEntry)
  with_entry before n = one_more before (item_entry n)

  -- the entries of a list of recipes
  unfoldable pub entries_at : Slot → Checked (List WrittenEntry)
  entries_at s = elim (value_at bytes t s) [
    | value.Sequence n ↦ each with_entry [] (nodes_of t n)
    | value.Mapping n ↦ cannot_stand (value_leaf t s)
    | value.Scalar text ↦ cannot_stand (value_leaf t s)
    | value.Other ↦ cannot_stand (value_leaf t s)
  ]
