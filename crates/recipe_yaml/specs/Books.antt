-- The recipes of a recipe file: YAML, of which each document with the type of a recipe defines one.
use Rattle.std.specs.Prelude.{ℕ, ◌&&◌, ◌||◌, Bool, true, false, List, [], codes, Option, Some, None, is_some}
use Rattle.std.specs.Prelude.{unwrap_or, Result, Ok, Err, if◌then◌else◌}
use Rattle.std.specs.List.{list_any}
use Rattle.std.specs.Str.{bytes_eq}
use Rattle.rw_base.specs.declared.tree.NodeId.{NodeId}
use Rattle.kept_files.specs.declared.reading.Reading.{Reading}
use Rattle.kept_files.specs.declared.reading.Reading.TheVariants as reading
use Rattle.rw_base.specs.Arena.{Arena}
use Rattle.kept_files.specs.Readings.{Reads}
use Rattle.yaml_tree.specs.Scalars.{scalar_of}
use Rattle.recipe_yaml.specs.declared.book.RecipeBook.{RecipeBook}
use Rattle.recipe_yaml.specs.declared.book.Written.{Written}
use Rattle.recipe_yaml.specs.declared.fault.RecipeFault.{RecipeFault}
use Rattle.recipe_yaml.specs.declared.fault.RecipeFault.TheVariants.{Wrong}
use Rattle.recipe_yaml.specs.declared.node.Slot.{Slot}
use Rattle.recipe_yaml.specs.declared.node.Value.{Value}
use Rattle.recipe_yaml.specs.declared.node.Value.TheVariants as value
use Rattle.recipe_yaml.specs.declared.root.Root.{Root}
use Rattle.recipe_yaml.specs.declared.root.RootKey.{RootKey}
use Rattle.recipe_yaml.specs.declared.root.RootKey.TheVariants as key
use Rattle.recipe_yaml.specs.Checked.{Checked, ◌>>=◌, each, one_more}
use Rattle.recipe_yaml.specs.Names.{is_known}
use Rattle.recipe_yaml.specs.Nodes.{nodes_of, value_leaf, entry_key, entry_value, last_leaf, document_value, value_at}
use Rattle.recipe_yaml.specs.WrittenEntries.{leaf_place, cannot_stand, once, text_at, entries_at}

-- ---- the keys of a root mapping

unfoldable pub key_named : List ℕ → RootKey
key_named text =
    if bytes_eq text (codes "type") then key.Type
    else if bytes_eq text (codes "name") then key.Name
    else if bytes_eq text (codes "preconditions") then key.Preconditions
    else if bytes_eq text (codes "recipeList") then key.RecipeList
    else if bytes_eq text (codes "causesAnotherCycle") then key.CausesAnotherCycle
    else key.Unknown

-- a key without a text is none of them
abbrev pub root_key : Option (List ℕ) → RootKey
root_key text = elim text [ Some text ↦ key_named text | None ↦ key.Unknown ]

abbrev pub is_type : RootKey → Bool
is_type key.Type = true
is_type _ = false

-- the type of a recipe
unfoldable pub says_recipe : Value → Bool
says_recipe v = elim v [
  | value.Scalar text ↦ bytes_eq text (codes "specs.openrewrite.org/v1beta/recipe")
  | value.Mapping n ↦ false
  | value.Sequence n ↦ false
  | value.Other ↦ false
]

-- ---- what the entries of a root mapping say, one after another

abbrev pub no_root : Root
no_root = record { has_type = false; name = None; conditions = None; list = None; again = None }

-- the name of a recipe that isn't defined before, whose names these recipes and this project have taken
abbrev pub is_taken : List Written → List ℕ → Bool
is_taken before name = is_known name || list_any (λ w. bytes_eq w.name name) before

module _ (bytes : List ℕ) (t : Arena) where
  -- fault 3, at the name
  unfoldable pub free_name : List Written → Slot → List ℕ → Checked (List ℕ)
  free_name before s name =
      if is_taken before name then Err (Wrong 3 (Some (leaf_place bytes t (value_leaf t s)))) else Ok name

  unfoldable pub name_at : List Written → Slot → Checked (List ℕ)
  name_at before s = text_at bytes t s >>= free_name before s

  -- `true` or `false`
  unfoldable pub flag_of : Slot → List ℕ → Checked Bool
  flag_of s text =
      if bytes_eq text (codes "true") then Ok true
      else if bytes_eq text (codes "false") then Ok false
      else cannot_stand bytes t (value_leaf t s)

  unfoldable pub flag_at : Slot → Checked Bool
  flag_at s = text_at bytes t s >>= flag_of s

  unfoldable pub with_type : Root → ℕ → Checked Root
  with_type r l = do
    new ← once bytes t r.has_type l
    Ok (record { has_type = true; name = r.name; conditions = r.conditions; list = r.list; again = r.again })

  unfoldable pub with_name : List Written → Root → ℕ → Slot → Checked Root
  with_name before r l s = do
    new ← once bytes t (is_some r.name) l
    name ← name_at before s
    Ok (record {
      has_type = r.has_type;
      name = Some name;
      conditions = r.conditions;
      list = r.list;
      again = r.again;
    })

  unfoldable pub with_conditions : Root → ℕ → Slot → Checked Root
  with_conditions r l s = do
    new ← once bytes t (is_some r.conditions) l
    es ← entries_at bytes t s
    Ok (record { has_type = r.has_type; name = r.name; conditions = Some es; list = r.list; again = r.again })

  unfoldable pub with_list : Root → ℕ → Slot → Checked Root
  with_list r l s = do
    new ← once bytes t (is_some r.list) l
    es ← entries_at bytes t s
    Ok (record { has_type = r.has_type; name = r.name; conditions = r.conditions; list = Some es; again = r.again })

  unfoldable pub with_again : Root → ℕ → Slot → Checked Root
  with_again r l s = do
    new ← once bytes t (is_some r.again) l
    again ← flag_at s
    Ok (record {
      has_type = r.has_type;
      name = r.name;
      conditions = r.conditions;
      list = r.list;
      again = Some again;
    })

  -- an entry with a key of this kind at leaf l, and this value
  unfoldable pub with_root_entry : List Written → Root → RootKey → ℕ → Slot → Checked Root
  with_root_entry before r key.Type l s = with_type r l
  with_root_entry before r key.Name l s = with_name before r l s
  with_root_entry before r key.Preconditions l s = with_conditions r l s
  with_root_entry before r key.RecipeList l s = with_list r l s
  with_root_entry before r key.CausesAnotherCycle l s = with_again r l s
  with_root_entry before r key.Unknown l s = Ok r

  -- a node of a root mapping; what is no entry is passed over
  unfoldable pub with_node : List Written → Root → NodeId → Checked Root
  with_node before r n = elim (entry_key t n) [
    | Some l ↦ with_root_entry before r (root_key (scalar_of bytes t l)) l (entry_value t n)
    | None ↦ Ok r
  ]

  -- ---- documents

  -- The recipe of a root mapping. Where the name or the list is missing, the leaf that ends the mapping can't stand.
  unfoldable pub finished : NodeId → Root → Checked Written
  finished mapping r = elim r.name [
    | None ↦ cannot_stand bytes t (last_leaf t mapping)
    | Some name ↦ elim r.list [
      | None ↦ cannot_stand bytes t (last_leaf t mapping)
      | Some list ↦ Ok (record {
        name = name;
        conditions = unwrap_or r.conditions [];
        list = list;
        again = unwrap_or r.again false;
      })
    ]
  ]

  unfoldable pub recipe_of : List Written → NodeId → Checked Written
  recipe_of before mapping = do
    r ← each (with_node before) no_root (nodes_of t mapping)
    finished mapping r

  -- a mapping is that of a recipe where an entry of it has the type of a recipe
  unfoldable pub has_recipe_type : NodeId → Bool
  has_recipe_type n = elim (entry_key t n) [
    | Some l ↦ is_type (root_key (scalar_of bytes t l)) && says_recipe (value_at bytes t (entry_value t n))
    | None ↦ false
  ]

  abbrev pub is_recipe : NodeId → Bool
  is_recipe mapping = list_any has_recipe_type (nodes_of t mapping)

  -- The recipes before a document, and its own behind them. Another document is passed over.
  unfoldable pub with_mapping : List Written → NodeId → Checked (List Written)
  with_mapping before mapping =
      if is_recipe mapping then one_more before (recipe_of before mapping) else Ok before

  unfoldable pub with_document : List Written → NodeId → Checked (List Written)
  with_document before n = elim (value_at bytes t (document_value t n)) [
    | value.Mapping mapping ↦ with_mapping before mapping
    | value.Sequence m ↦ Ok before
    | value.Scalar text ↦ Ok before
    | value.Other ↦ Ok before
  ]

  unfoldable pub book_in : Checked RecipeBook
  book_in = each with_document [] (nodes_of t (record { 0 = t.root })) >>= λ ws. Ok (record { recipes = ws })

-- the book of a file, by what it reads as
unfoldable pub book_of : List ℕ → Reading → Checked RecipeBook
book_of bytes (reading.Yaml t) = book_in bytes t
book_of bytes (reading.Refused r) = Err (Wrong 1 (Some r.place))
book_of bytes _ = Ok (record { recipes = [] })

-- What the bytes of a recipe file read as is what a file of its kind does that is a source file.
unfoldable pub recipes_in : Reads → List ℕ → Result RecipeBook RecipeFault
recipes_in read bytes = book_of bytes (read (codes "recipes.yml") (Some bytes))
