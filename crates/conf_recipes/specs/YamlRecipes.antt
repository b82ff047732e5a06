-- The edits of recipes in YAML files.
use Rattle.std.specs.Prelude.{ℕ, false, List, [], map, Option, Some, None}
use Rattle.std.specs.List.{flat_map}
use Rattle.rw_base.specs.declared.edit.Edit.{Edit}
use Rattle.rw_base.specs.Arena.{Arena}
use Rattle.rw_base.specs.Laid.{kids_of}
use Rattle.rw_host.specs.declared.file.FileEdit.{FileEdit}
use Rattle.rw_host.specs.declared.file.FileEdit.TheVariants as edit
use Rattle.yaml_texts.specs.Spelled.{spelled}
use Rattle.yaml_tree.specs.declared.option.ChangeKey.{ChangeKey}
use Rattle.yaml_tree.specs.declared.option.ChangeValue.{ChangeValue}
use Rattle.yaml_tree.specs.declared.option.DeleteKey.{DeleteKey}
use Rattle.yaml_tree.specs.declared.option.YamlChangePropertyKey.{YamlChangePropertyKey}
use Rattle.yaml_tree.specs.Found.{found_in}
use Rattle.kept_files.specs.FileEdits.{with_edits}
use Rattle.kept_files.specs.States.{yaml_in}
use Rattle.kept_files.specs.declared.file.KeptFile.{KeptFile}
use Rattle.conf_recipes.specs.YamlLeaves.{entries_found, entry_key_edit, value_edits}
use Rattle.conf_recipes.specs.YamlJoinedKeys.{joined_keys_in}
use Rattle.conf_recipes.specs.YamlDeletions.{deletions, is_among}

-- the edits of an accepted YAML file, by its tree and bytes; another file is kept
abbrev pub in_yaml : (Arena → List ℕ → List Edit) → Option (Arena × List ℕ) → FileEdit
in_yaml edits None = edit.Keep
in_yaml edits (Some p) = with_edits (edits p.0 p.1)

-- ChangeKey: the key of each entry that the path finds becomes the new one, where that can be spelled.
abbrev pub keys_changed : ChangeKey → Arena → List ℕ → Option (List ℕ) → List Edit
keys_changed options t bytes None = []
keys_changed options t bytes (Some plain) =
    map (entry_key_edit bytes t plain options.new_key) (entries_found bytes options.old_key_path t)

unfoldable pub key_changed : ChangeKey → KeptFile → FileEdit
key_changed options f = in_yaml (λ t bytes. keys_changed options t bytes (spelled options.new_key)) (yaml_in f)

-- ChangeValue: the value of each entry that the path finds becomes the new one, where it is one scalar and the new one
-- can be spelled.
abbrev pub values_changed : ChangeValue → Arena → List ℕ → Option (List ℕ) → List Edit
values_changed options t bytes None = []
values_changed options t bytes (Some text) = flat_map (value_edits t text) (entries_found bytes options.key_path t)

unfoldable pub value_changed : ChangeValue → KeptFile → FileEdit
value_changed options f = in_yaml (λ t bytes. values_changed options t bytes (spelled options.value)) (yaml_in f)

-- ChangePropertyKey: an entry whose keys, from the root through mappings alone and joined by dots, are the old ones
-- gets what is left of the new ones behind those of its parent.
abbrev pub joined_keys_changed : YamlChangePropertyKey → Arena → List ℕ → List Edit
joined_keys_changed options t bytes =
    joined_keys_in t bytes (kids_of t.nodes t.root) false options.old_property_key options.new_property_key

unfoldable pub yaml_property_key_changed : YamlChangePropertyKey → KeptFile → FileEdit
yaml_property_key_changed options f = in_yaml (joined_keys_changed options) (yaml_in f)

-- DeleteKey: the entries that the path finds go from their mappings.
abbrev pub keys_deleted : DeleteKey → Arena → List ℕ → List Edit
keys_deleted options t bytes = deletions t bytes (is_among (found_in bytes options.key_path t))

unfoldable pub key_deleted : DeleteKey → KeptFile → FileEdit
key_deleted options f = in_yaml (keys_deleted options) (yaml_in f)
