-- The edits of recipes in properties files.
use Rattle.std.specs.Prelude.{◌≡◌, ℕ, ◌+◌, ◌≤◌, List, [], ◌∷◌, length, Option, unwrap_or, if◌then◌else◌}
use Rattle.std.specs.Str.{bytes_eq}
use Rattle.rw_base.specs.NewText.{new_text}
use Rattle.rw_base.specs.declared.edit.Edit.{Edit}
use Rattle.rw_base.specs.declared.edit.Item.TheVariants as item
use Rattle.rw_base.specs.declared.edit.Spot.TheVariants as spot
use Rattle.rw_base.specs.declared.leaves.TheConstants.{MOST_BYTES}
use Rattle.properties_tree.specs.declared.option.PropertiesChangePropertyKey.{PropertiesChangePropertyKey}
use Rattle.properties_tree.specs.Decoding.{key_text}
use Rattle.properties_tree.specs.Entries.{Entry, properties_of}
use Rattle.properties_tree.specs.Keys.{with_key}
use Rattle.properties_tree.specs.Layout.{key_leaf_of, tree_of}
use Rattle.properties_tree.specs.Spelling.{spelled_key}

-- the edit that puts a key, spelled, in the place of a leaf's text
abbrev pub key_edit : ℕ → List ℕ → Edit
key_edit leaf key = record { spot = spot.Leaf leaf; items = item.Text (spelled_key key) ∷ [] }

-- The edits of these entries, the first of which has this number: the Key leaf of each entry with the old key gets
-- the new key.
unfoldable pub key_edits : List ℕ → List ℕ → ℕ → List Entry → List Edit
key_edits old new n [] = []
key_edits old new n (e ∷ es) =
    if bytes_eq (key_text e) old
    then key_edit (key_leaf_of n) new ∷ key_edits old new (n + 1) es
    else key_edits old new (n + 1) es

-- the edits of ChangePropertyKey in a file of these bytes
abbrev pub edits_of : List ℕ → PropertiesChangePropertyKey → List Edit
edits_of bytes options = key_edits options.old_property_key options.new_property_key 0 (properties_of bytes).entries

-- The new text of a file with these edits, where it isn't too large, is the file with the keys that say the old key
-- written as the new one is spelled.
abbrev pub EditsWriteKeys : Type 0
EditsWriteKeys =
    (bytes : List ℕ) (options : PropertiesChangePropertyKey)
    → length bytes ≤ MOST_BYTES
    → new_text (tree_of bytes) bytes (edits_of bytes options)
    ≡ with_key options.old_property_key (spelled_key options.new_property_key) bytes

-- A new text, the old one where there is none, is the file's with the edits of ChangePropertyKey.
abbrev pub IsRenamed : List ℕ → PropertiesChangePropertyKey → Option (List ℕ) → Type 0
IsRenamed bytes options text = unwrap_or text bytes ≡ new_text (tree_of bytes) bytes (edits_of bytes options)
