-- What the edits of recipes make of a file.
use Rattle.std.specs.Prelude.{◌≡◌, ℕ, ◌≤◌, ◌||◌, Bool, List, [], ◌∷◌, ◌++◌, length, if◌then◌else◌}
use Rattle.std.specs.Str.{bytes_eq}
use Rattle.rw_base.specs.NewText.{new_text}
use Rattle.rw_base.specs.declared.leaves.TheConstants.{MOST_BYTES}
use Rattle.properties_tree.specs.declared.option.AddProperty.{AddProperty}
use Rattle.properties_tree.specs.declared.option.DeleteProperty.{DeleteProperty}
use Rattle.properties_tree.specs.Decoding.{key_text}
use Rattle.properties_tree.specs.Entries.{Entry, properties_of}
use Rattle.properties_tree.specs.Laws.{whole_entry}
use Rattle.properties_tree.specs.Layout.{tree_of}
use Rattle.conf_recipes.specs.PropertiesRecipes.{has_entry, is_unfinished, added_text, adds_of}
use Rattle.conf_recipes.specs.PropertiesRecipes.{through_last_end, deletes_of}

-- The new text of a file with the edits of AddProperty is the file with the entry's text behind it, where no entry has
-- the key and the last one doesn't go on into nothing, and else the file.
abbrev pub AddedStandsAtTheEnd : Type 0
AddedStandsAtTheEnd =
    (bytes : List ℕ) (options : AddProperty) → length bytes ≤ MOST_BYTES →
    let stays = has_entry options.property (properties_of bytes).entries || is_unfinished bytes in
    new_text (tree_of bytes) bytes (adds_of bytes options)
    ≡ bytes ++ (if stays then [] else added_text bytes options)

-- what is left of an entry: of one whose key passes a test, the part of its prefix up to the last line end
abbrev pub piece_left : (List ℕ → Bool) → Entry → List ℕ
piece_left goes e = if goes (key_text e) then through_last_end e.prefix else whole_entry e

-- what is left of entries, and what stands behind them
abbrev pub without : (List ℕ → Bool) → List Entry → List ℕ → List ℕ
without goes [] rest = rest
without goes (e ∷ es) rest = piece_left goes e ++ without goes es rest

-- The new text of a file with the edits of DeleteProperty is the file without the entries that have the key, each but
-- for the part of its prefix up to the last line end.
abbrev pub DeletesLeaveTheRest : Type 0
DeletesLeaveTheRest =
    (bytes : List ℕ) (options : DeleteProperty) → length bytes ≤ MOST_BYTES →
    let goes : List ℕ → Bool = λ key. bytes_eq key options.property_key in
    new_text (tree_of bytes) bytes (deletes_of bytes options)
    ≡ without goes (properties_of bytes).entries (properties_of bytes).rest
