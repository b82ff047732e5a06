-- The tree of a properties file: for each entry a node with four leaves, and the file's node with the entries and the
-- end. Nodes are numbered in the order in which they end: entry k is node k, and the file is the last.
use Rattle.std.specs.Prelude.{ℕ, ◌+◌, ◌*◌, List, [], ◌∷◌, ◌++◌, length}
use Rattle.rw_base.specs.Arena.{Arena}
use Rattle.rw_base.specs.declared.tree.Leaf.{Leaf}
use Rattle.rw_base.specs.declared.tree.NodeRow.{NodeRow}
use Rattle.rw_base.specs.declared.tree.Part.{Part}
use Rattle.rw_base.specs.declared.tree.Part.TheVariants as part
use Rattle.properties_tree.specs.declared.layout.TheConstants.{KEY, SEPARATOR, VALUE, ENDING, END, FILE, ENTRY}
use Rattle.properties_tree.specs.Entries.{Entry, properties_of, bytes_of}

-- a leaf that begins at a byte
abbrev pub leaf_from : ℕ → List ℕ → List ℕ → ℕ → Leaf
leaf_from at prefix text class =
    record { prefix_from = at; from = at + length prefix; to = at + length prefix + length text; class = class }

-- the byte behind an entry that begins at a byte
abbrev pub entry_end : ℕ → Entry → ℕ
entry_end at e =
    at + length e.prefix + length (bytes_of e.key) + length (bytes_of e.separator) + length (bytes_of e.value)
    + length e.ending

-- the four leaves of an entry
abbrev pub entry_leaves : ℕ → Entry → List Leaf
entry_leaves at e =
    let key = leaf_from at e.prefix (bytes_of e.key) KEY in
    let separator = leaf_from key.to [] (bytes_of e.separator) SEPARATOR in
    let value = leaf_from separator.to [] (bytes_of e.value) VALUE in
    let ending = leaf_from value.to [] e.ending ENDING in
    key ∷ separator ∷ value ∷ ending ∷ []

-- the leaves of entries from a byte on, and the end with its prefix
abbrev pub leaves_from : ℕ → List Entry → List ℕ → List Leaf
leaves_from at [] rest = leaf_from at rest [] END ∷ []
leaves_from at (e ∷ es) rest = entry_leaves at e ++ leaves_from (entry_end at e) es rest

-- the node of an entry whose first leaf has this number
abbrev pub entry_row : ℕ → NodeRow
entry_row first =
    record {
      kind = ENTRY;
      first = first;
      past = first + 4;
      parts = part.Leaf first ∷ part.Leaf (first + 1) ∷ part.Leaf (first + 2) ∷ part.Leaf (first + 3) ∷ [];
    }

-- the nodes of so many entries, and the parts that they are, from this entry on
abbrev pub entry_rows : ℕ → List Entry → List NodeRow
entry_rows n [] = []
entry_rows n (e ∷ es) = entry_row (4 * n) ∷ entry_rows (n + 1) es

abbrev pub entry_parts : ℕ → List Entry → List Part
entry_parts n [] = []
entry_parts n (e ∷ es) = part.Node (record { 0 = n }) ∷ entry_parts (n + 1) es

-- the node of a file with so many entries
abbrev pub file_row : List Entry → NodeRow
file_row es =
    record {
      kind = FILE;
      first = 0;
      past = 4 * length es + 1;
      parts = entry_parts 0 es ++ part.Leaf (4 * length es) ∷ [];
    }

-- the tree of a properties file
unfoldable pub tree_of : List ℕ → Arena
tree_of bytes =
    record {
      leaves = leaves_from 0 (properties_of bytes).entries (properties_of bytes).rest;
      nodes = entry_rows 0 (properties_of bytes).entries ++ file_row (properties_of bytes).entries ∷ [];
      root = length (properties_of bytes).entries;
    }

-- the number of the Key leaf of entry n
abbrev pub key_leaf_of : ℕ → ℕ
key_leaf_of n = 4 * n
