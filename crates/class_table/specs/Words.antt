-- The tree of a file as plain data whose leaves are words. All definitions here see this and nothing else of a file.
use Rattle.std.specs.Prelude.{ℕ, List}
use Rattle.rw_base.specs.declared.tree.Part.{Part}
use Rattle.rw_base.specs.Arena.{Arena, leaf_at, text_of}
use Rattle.rw_base.specs.Trees.{Trees, relabel}
use Rattle.rw_base.specs.Laid.{kids_of, forest_of}

-- a leaf: its class and its text
pub record Word : Type 0 where
  pub class : ℕ
  pub text : List ℕ

-- trees, as the parts of a node are: words, and nodes known by their kind and their own parts
abbrev pub Parts : Type 0
Parts = Trees (Unit {0}) Word

-- the leaf of a number, in a tree and the bytes that it was read from
abbrev pub word_of : Arena → List ℕ → ℕ → Word
word_of t bytes i = record { class = (leaf_at t.leaves i).class; text = text_of bytes (leaf_at t.leaves i) }

-- the parts of a node
unfoldable pub parts_at : Arena → List ℕ → ℕ → Parts
parts_at t bytes n = relabel (λ _. tt) (word_of t bytes) (kids_of t.nodes n)

-- the trees of some parts
unfoldable pub trees_of : Arena → List ℕ → List Part → Parts
trees_of t bytes ps = relabel (λ _. tt) (word_of t bytes) (forest_of t.nodes ps)
