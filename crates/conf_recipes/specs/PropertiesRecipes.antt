-- What the recipes on properties files do to a file of a repository.
use Rattle.std.specs.Prelude.{ℕ, ◌+◌, ◌*◌, ◌-◌, ◌==◌, ◌&&◌, ◌||◌, Bool, true, List, [], ◌∷◌, ◌++◌, length, take, drop}
use Rattle.std.specs.Prelude.{slice_index_or, Option, Some, None, if◌then◌else◌}
use Rattle.std.specs.List.{list_any}
use Rattle.std.specs.Str.{bytes_eq}
use Rattle.rw_base.specs.Arena.{Arena}
use Rattle.rw_base.specs.declared.edit.Edit.{Edit}
use Rattle.rw_base.specs.declared.edit.Item.TheVariants as item
use Rattle.rw_base.specs.declared.edit.Spot.TheVariants as spot
use Rattle.rw_host.specs.declared.file.FileEdit.{FileEdit}
use Rattle.rw_host.specs.declared.file.FileEdit.TheVariants as edit
use Rattle.properties_tree.specs.declared.option.PropertiesChangePropertyKey.{PropertiesChangePropertyKey}
use Rattle.properties_tree.specs.declared.option.DeleteProperty.{DeleteProperty}
use Rattle.properties_tree.specs.declared.option.ChangePropertyValue.{ChangePropertyValue}
use Rattle.properties_tree.specs.declared.option.AddProperty.{AddProperty}
use Rattle.properties_tree.specs.Characters.{is_line_end}
use Rattle.properties_tree.specs.Decoding.{key_text, value_text}
use Rattle.properties_tree.specs.Entries.{Entry, properties_of, bytes_of}
use Rattle.properties_tree.specs.Lines.{is_continued}
use Rattle.properties_tree.specs.Spelling.{spelled_key, spelled_value}
use Rattle.rw_base.specs.NaturalLines.{begins_with_lf}
use Rattle.kept_files.specs.FileEdits.{with_edits}
use Rattle.kept_files.specs.States.{properties_in}
use Rattle.kept_files.specs.declared.file.KeptFile.{KeptFile}
use Rattle.conf_recipes.specs.PathPatterns.{is_empty}
use Rattle.conf_recipes.specs.PropertiesEdits.{edits_of}

-- the edits that are made for the bytes of an accepted properties file; another file stays
abbrev pub edited_by : (List ℕ → List Edit) → Option (Arena × List ℕ) → FileEdit
edited_by edits_for (Some p) = with_edits (edits_for p.1)
edited_by edits_for None = edit.Keep

-- ---- ChangePropertyKey

unfoldable pub properties_key_changed : PropertiesChangePropertyKey → KeptFile → FileEdit
properties_key_changed options f = edited_by (λ bytes. edits_of bytes options) (properties_in f)

-- ---- DeleteProperty

-- the bytes of a text up to its last line end, with it: those at or behind which one stands
unfoldable pub through_last_end : List ℕ → List ℕ
through_last_end [] = []
through_last_end (b ∷ rest) = if list_any is_line_end (b ∷ rest) then b ∷ through_last_end rest else []

-- An entry, which is the node of its number, goes with its line end. Of its prefix the part up to the last line end
-- stays.
abbrev pub delete_edit : ℕ → Entry → Edit
delete_edit n e = record { spot = spot.Node (record { 0 = n }); items = item.Text (through_last_end e.prefix) ∷ [] }

-- the edits in which those of these entries go whose keys pass a test; the first entry has this number
unfoldable pub deletes : (List ℕ → Bool) → ℕ → List Entry → List Edit
deletes goes n [] = []
deletes goes n (e ∷ es) =
    if goes (key_text e) then delete_edit n e ∷ deletes goes (n + 1) es else deletes goes (n + 1) es

abbrev pub deletes_of : List ℕ → DeleteProperty → List Edit
deletes_of bytes options = deletes (λ key. bytes_eq key options.property_key) 0 (properties_of bytes).entries

unfoldable pub property_deleted : DeleteProperty → KeptFile → FileEdit
property_deleted options f = edited_by (λ bytes. deletes_of bytes options) (properties_in f)

-- ---- ChangePropertyValue

-- the edit that puts a text in the place of a leaf's
abbrev pub text_edit : ℕ → List ℕ → Edit
text_edit leaf text = record { spot = spot.Leaf leaf; items = item.Text text ∷ [] }

-- whether a value is the old one, where one is given
abbrev pub is_old_value : Option (List ℕ) → List ℕ → Bool
is_old_value None value = true
is_old_value (Some old) value = bytes_eq value old

-- whether an entry gets the new value: it has the key, and its value is the old one, where one is given
abbrev pub gets_value : ChangePropertyValue → Entry → Bool
gets_value options e = bytes_eq (key_text e) options.property_key && is_old_value options.old_value (value_text e)

-- an empty separator becomes `=`
abbrev pub separator_edits : ℕ → Entry → List Edit
separator_edits n e = if is_empty (bytes_of e.separator) then text_edit (4 * n + 1) (61 ∷ []) ∷ [] else []

-- the edits in which an entry, whose Key leaf has the number 4 * n, gets a value, spelled
abbrev pub value_edits : List ℕ → ℕ → Entry → List Edit
value_edits value n e = separator_edits n e ++ text_edit (4 * n + 2) (spelled_value value) ∷ []

-- the edits of these entries, the first of which has this number
unfoldable pub all_value_edits : ChangePropertyValue → ℕ → List Entry → List Edit
all_value_edits options n [] = []
all_value_edits options n (e ∷ es) =
    if gets_value options e
    then value_edits options.new_value n e ++ all_value_edits options (n + 1) es
    else all_value_edits options (n + 1) es

abbrev pub values_of : List ℕ → ChangePropertyValue → List Edit
values_of bytes options = all_value_edits options 0 (properties_of bytes).entries

unfoldable pub property_value_changed : ChangePropertyValue → KeptFile → FileEdit
property_value_changed options f = edited_by (λ bytes. values_of bytes options) (properties_in f)

-- ---- AddProperty

-- the line end that a text begins with: LF, CR LF or CR
abbrev pub ending_at : List ℕ → List ℕ
ending_at [] = []
ending_at (b ∷ rest) =
    if b == 10 then 10 ∷ []
    else if b == 13 then (if begins_with_lf rest then 13 ∷ 10 ∷ [] else 13 ∷ [])
    else []

-- the first line end of a text, LF where it has none
unfoldable pub first_line_end : List ℕ → List ℕ
first_line_end [] = 10 ∷ []
first_line_end (b ∷ rest) = if is_line_end b then ending_at (b ∷ rest) else first_line_end rest

-- whether the last byte of a text is LF or CR
unfoldable pub ends_in_line_end : List ℕ → Bool
ends_in_line_end text = is_line_end (slice_index_or text (length text - 1) 0)

-- the line end that goes before an entry at the end of a file: none where the file is empty or ends in one
unfoldable pub line_end_before : List ℕ → List ℕ
line_end_before bytes = if is_empty bytes || ends_in_line_end bytes then [] else first_line_end bytes

-- the text of a new entry, with the line ends before and behind it
abbrev pub added_text : List ℕ → AddProperty → List ℕ
added_text bytes options =
    line_end_before bytes
    ++ (spelled_key options.property ++ 61 ∷ (spelled_value options.value ++ first_line_end bytes))

unfoldable pub ends_in_cr_lf : List ℕ → Bool
ends_in_cr_lf text = bytes_eq (drop (length text - 2) text) (13 ∷ 10 ∷ [])

-- a text without the line end behind it, if it ends in one
unfoldable pub without_line_end : List ℕ → List ℕ
without_line_end text =
    if ends_in_cr_lf text then take (length text - 2) text
    else if ends_in_line_end text then take (length text - 1) text
    else text

-- Whether the last entry of a file goes on into nothing: no other text stands behind it, and its last line ends in an
-- odd number of backslashes, with one line end behind them or none.
unfoldable pub is_unfinished : List ℕ → Bool
is_unfinished bytes = is_empty (properties_of bytes).rest && is_continued (without_line_end bytes)

unfoldable pub has_entry : List ℕ → List Entry → Bool
has_entry key entries = list_any (λ e. bytes_eq (key_text e) key) entries

-- Where no entry has the key, and the last one doesn't go on into nothing, the end, which is the leaf behind those of
-- the entries, gets the new entry as its text.
unfoldable pub adds_of : List ℕ → AddProperty → List Edit
adds_of bytes options =
    let entries = (properties_of bytes).entries in
    if has_entry options.property entries || is_unfinished bytes
    then []
    else text_edit (4 * length entries) (added_text bytes options) ∷ []

unfoldable pub property_added : AddProperty → KeptFile → FileEdit
property_added options f = edited_by (λ bytes. adds_of bytes options) (properties_in f)
