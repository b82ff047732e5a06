-- What holds of every file, key and value.
use Rattle.std.specs.Prelude.{◌≡◌, ℕ, ◌+◌, ◌*◌, ◌<◌, ◌≤◌, ◌==◌, false, List, [], ◌∷◌, ◌++◌, length, map}
use Rattle.std.specs.List.{IsDistinct}
use Rattle.rw_base.specs.NaturalLines.{begins_with_lf}
use Rattle.rw_base.specs.Arena.{IsTree}
use Rattle.properties_tree.specs.Entries.{Entry, properties_of, bytes_of}
use Rattle.properties_tree.specs.Decoding.{key_text, value_text, entry_at}
use Rattle.properties_tree.specs.Layout.{tree_of}
use Rattle.rw_base.specs.declared.leaves.TheConstants.{MOST_BYTES}
use Rattle.properties_tree.specs.Spelling.{spelled_key, spelled_value}
use Rattle.properties_tree.specs.declared.layout.TheConstants.{KEY, SEPARATOR, VALUE, ENDING, END, FILE, ENTRY}

-- an entry as it stands in its file
abbrev pub whole_entry : Entry → List ℕ
whole_entry e = e.prefix ++ (bytes_of e.key ++ (bytes_of e.separator ++ (bytes_of e.value ++ e.ending)))

-- entries as they stand, and what stands behind them
abbrev pub whole_of : List Entry → List ℕ → List ℕ
whole_of [] rest = rest
whole_of (e ∷ es) rest = whole_entry e ++ whole_of es rest

-- The parts of the entries and the rest, joined, are the bytes.
abbrev pub PartsAreTheFile : Type 0
PartsAreTheFile = (bytes : List ℕ) → whole_of (properties_of bytes).entries (properties_of bytes).rest ≡ bytes

-- The tree of a file that isn't too large is one.
abbrev pub FilesHaveTrees : Type 0
FilesHaveTrees = (bytes : List ℕ) → length bytes ≤ MOST_BYTES → IsTree (tree_of bytes)

-- It has four leaves for each entry, and the end.
abbrev pub EntriesHaveFourLeaves : Type 0
EntriesHaveFourLeaves =
    (bytes : List ℕ) → length (tree_of bytes).leaves ≡ 4 * length (properties_of bytes).entries + 1

-- No two classes of leaves are one number, and no two kinds of nodes are.
abbrev pub LeafClassesDiffer : Type 0
LeafClassesDiffer = IsDistinct (λ a b. a == b) (KEY ∷ SEPARATOR ∷ VALUE ∷ ENDING ∷ END ∷ [])

abbrev pub NodeKindsDiffer : Type 0
NodeKindsDiffer = IsDistinct (λ a b. a == b) (ENTRY ∷ FILE ∷ [])

-- ---- what is spelled reads back

-- A text begins with an entry that says this key.
pub record BeginsWithKey (text key : List ℕ) : Type 0 where
  pub some : 0 < length (properties_of text).entries
  pub same : key_text (entry_at text 0) ≡ key

-- A spelled key reads back as that key, whatever stands behind the separator.
abbrev pub KeysReadBack : ℕ → Type 0
KeysReadBack separator = (key text : List ℕ) → BeginsWithKey (spelled_key key ++ separator ∷ text) key

-- The same for what may stand behind a key that isn't empty.
abbrev pub SomeKeysReadBack : ℕ → Type 0
SomeKeysReadBack separator =
    (key text : List ℕ) → 0 < length key → BeginsWithKey (spelled_key key ++ separator ∷ text) key

-- A line end, as it stands whole before the rest of a file: LF; CR LF; CR, where no LF stands behind it; none, at the
-- end of the file.
pub data IsEnding : List ℕ → List ℕ → Type 0 where
  by_lf : {rest : List ℕ} → IsEnding (10 ∷ []) rest
  by_cr_lf : {rest : List ℕ} → IsEnding (13 ∷ 10 ∷ []) rest
  by_cr : {rest : List ℕ} → begins_with_lf rest ≡ false → IsEnding (13 ∷ []) rest
  at_file_end : IsEnding [] []

-- A text begins with an entry that says this key and this value and has this line end. The entries behind it are those
-- of the rest.
pub record BeginsWithEntry (text key value ending rest : List ℕ) : Type 0 where
  pub first : Entry
  pub key_is : key_text first ≡ key
  pub value_is : value_text first ≡ value
  pub ending_is : first.ending ≡ ending
  pub entries : (properties_of text).entries ≡ first ∷ (properties_of rest).entries

-- A spelled value reads back as that value, behind any spelled key and this separator, before each line end.
abbrev pub ValuesReadBack : ℕ → Type 0
ValuesReadBack separator =
    (key value ending rest : List ℕ) → IsEnding ending rest →
    let text = spelled_key key ++ separator ∷ (spelled_value value ++ (ending ++ rest)) in
    BeginsWithEntry text key value ending rest

-- The same for a blank, behind a key that isn't empty.
abbrev pub ValuesReadBackBehindSome : ℕ → Type 0
ValuesReadBackBehindSome separator =
    (key value ending rest : List ℕ) → 0 < length key → IsEnding ending rest →
    let text = spelled_key key ++ separator ∷ (spelled_value value ++ (ending ++ rest)) in
    BeginsWithEntry text key value ending rest

-- A spelled key that isn't empty reads back alone too, before each line end, and its value is empty.
abbrev pub KeysReadBackAlone : Type 0
KeysReadBackAlone =
    (key ending rest : List ℕ) → 0 < length key → IsEnding ending rest →
    BeginsWithEntry (spelled_key key ++ (ending ++ rest)) key [] ending rest

-- a file with a line for each pair of a key and a value
unfoldable pub spelled_file : List (List ℕ × List ℕ) → List ℕ
spelled_file [] = []
spelled_file (pair ∷ pairs) = spelled_key pair.0 ++ 61 ∷ (spelled_value pair.1 ++ (10 ∷ [] ++ spelled_file pairs))

-- Such a file reads back as those pairs.
abbrev pub FilesReadBack : Type 0
FilesReadBack =
    (pairs : List (List ℕ × List ℕ)) →
    map (λ e. (key_text e, value_text e)) (properties_of (spelled_file pairs)).entries ≡ pairs
