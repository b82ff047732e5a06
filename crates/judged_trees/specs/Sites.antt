-- The site of a node of a tree.
use Rattle.std.specs.Prelude.{ℕ, List}
use Rattle.rw_base.specs.declared.tree.Part.{Part}
use Rattle.rw_base.specs.Arena.{Arena, kind_of}
use Rattle.rw_base.specs.Laid.{forest_of}
use Rattle.judged_trees.specs.Tables.{Site}

-- a node of a tree, of whose parts these are judged
abbrev pub site_of : {G : Type 0} → Arena → ℕ → List Part → G → Site G
site_of tree n parts given = record {
  number = n;
  kind = kind_of tree.nodes n;
  trees = forest_of tree.nodes parts;
  given = given;
}
