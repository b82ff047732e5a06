-- The file that is judged.
use Rattle.std.specs.Prelude.{ℕ, List}
use Rattle.rw_base.specs.declared.tree.Leaf.{Leaf}
use Rattle.rw_base.specs.Arena.{Arena, leaf_at, text_of}

-- its leaves and its bytes
pub record Source : Type 0 where
  pub leaves : List Leaf
  pub bytes : List ℕ

abbrev pub source_of : Arena → List ℕ → Source
source_of tree bytes = record { leaves = tree.leaves; bytes = bytes }

-- the text of a leaf, and its class
abbrev pub text_at : Source → ℕ → List ℕ
text_at s i = text_of s.bytes (leaf_at s.leaves i)

abbrev pub class_at : Source → ℕ → ℕ
class_at s i = (leaf_at s.leaves i).class
