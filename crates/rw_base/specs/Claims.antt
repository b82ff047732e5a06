-- What the laws of this crate say.
use Rattle.std.specs.Prelude.{◌≡◌, ℕ, List, length}
use Rattle.rw_base.specs.declared.edit.Edit.{Edit}
use Rattle.rw_base.specs.declared.edit.Spot.{Spot}
use Rattle.rw_base.specs.Arena.{Arena, IsTree, end_of}
use Rattle.rw_base.specs.NewText.{AreEdits, AreSameEdits, AreRanked, new_text}
use Rattle.rw_base.specs.Gaps.{old_bytes, new_bytes, pieces_of}

-- The old bytes are gap, range, gap and so on.
abbrev pub PiecesAreOldBytes : Type 0
PiecesAreOldBytes =
    (t : Arena) (bytes : List ℕ) (edits : List Edit) → IsTree t → AreEdits t edits → length bytes ≡ end_of t
    → old_bytes (pieces_of t bytes edits) ≡ bytes

-- The new text is the same gaps, with the new text of each outermost spot in the place of its range.
abbrev pub PiecesAreNewText : Type 0
PiecesAreNewText =
    (t : Arena) (bytes : List ℕ) (edits : List Edit) → IsTree t → AreEdits t edits
    → new_bytes (pieces_of t bytes edits) ≡ new_text t bytes edits

-- Edits that put the same at each spot make the same new text, in whatever order they stand.
abbrev pub SameEditsMakeOneText : Type 0
SameEditsMakeOneText =
    (t : Arena) (bytes : List ℕ) (es fs : List Edit) → AreSameEdits es fs → new_text t bytes es ≡ new_text t bytes fs

-- Edits whose spots rise by some rank are edits of the tree.
abbrev pub RankedAreEdits : Type 0
RankedAreEdits =
    (t : Arena) (rank : Spot → ℕ) (from : ℕ) (es : List Edit) → AreRanked t rank from es → AreEdits t es
