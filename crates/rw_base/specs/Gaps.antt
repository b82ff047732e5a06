-- The bytes of a file as what stays and what is edited.
use Rattle.std.specs.Prelude.{ℕ, List, [], ◌∷◌, ◌++◌, take, slice_range, Option, Some, None}
use Rattle.rw_base.specs.declared.tree.Leaf.{Leaf}
use Rattle.rw_base.specs.declared.tree.Part.{Part}
use Rattle.rw_base.specs.declared.edit.Item.{Item}
use Rattle.rw_base.specs.declared.edit.Edit.{Edit}
use Rattle.rw_base.specs.Arena.{Arena, leaf_at, first_of, past_of, prefix_of, text_of, end_from}
use Rattle.rw_base.specs.NewText.{join_parts, leaf_edit, node_edit, node_new}
use Rattle.rw_base.specs.Rows.{value}

-- the byte at which a leaf begins
abbrev pub start_of : List Leaf → ℕ → ℕ
start_of leaves i = end_from 0 (take i leaves)

-- the bytes of a node, from its first prefix to its last text
abbrev pub range_of : Arena → List ℕ → ℕ → List ℕ
range_of t bytes n = slice_range bytes (start_of t.leaves (first_of t.nodes n)) (start_of t.leaves (past_of t.nodes n))

-- A gap stays. A range is an outermost spot, with its old bytes and its new text.
pub data Piece : Type 0 where
  gap : List ℕ → Piece
  range : List ℕ → List ℕ → Piece

abbrev pub old_bytes : List Piece → List ℕ
old_bytes [] = []
old_bytes (gap bytes ∷ ps) = bytes ++ old_bytes ps
old_bytes (range old new ∷ ps) = old ++ old_bytes ps

abbrev pub new_bytes : List Piece → List ℕ
new_bytes [] = []
new_bytes (gap bytes ∷ ps) = bytes ++ new_bytes ps
new_bytes (range old new ∷ ps) = new ++ new_bytes ps

module _ (t : Arena) (bytes : List ℕ) (edits : List Edit) where
  -- the prefix of a leaf with an edit is a gap, and its text a range
  abbrev pub leaf_split : Leaf → Option (List ℕ) → List Piece
  leaf_split l None = gap (prefix_of bytes l ++ text_of bytes l) ∷ []
  leaf_split l (Some text) = gap (prefix_of bytes l) ∷ range (text_of bytes l) text ∷ []

  abbrev pub leaf_pieces : ℕ → List Piece
  leaf_pieces i = leaf_split (leaf_at t.leaves i) (leaf_edit edits i)

  -- a node with an edit is one range, whatever edits lie below it
  abbrev pub row_pieces : ℕ → (ℕ → List Piece) → Option (List Item) → List Part → List Piece
  row_pieces n f None parts = join_parts leaf_pieces f parts
  row_pieces n f (Some items) parts = range (range_of t bytes n) (node_new t bytes edits n) ∷ []

  unfoldable pub node_pieces : ℕ → List Piece
  node_pieces n = value [] (λ k r f. row_pieces k f (node_edit edits k) r.parts) t.nodes n

-- gaps and ranges of the whole, in order
unfoldable pub pieces_of : Arena → List ℕ → List Edit → List Piece
pieces_of t bytes edits = node_pieces t bytes edits t.root
