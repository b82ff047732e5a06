-- How what a key path finds and the entries of a tree go together.
use Rattle.std.specs.Prelude.{◌≡◌, ◌==◌, ◌⊎◌, List, [], ◌∷◌, map}
use Rattle.std.specs.List.{IsDistinct}
use Rattle.rw_base.specs.declared.tree.NodeId.{NodeId}
use Rattle.rw_base.specs.Arena.{Arena}
use Rattle.yaml_tree.specs.declared.entry.EntryView.{EntryView}
use Rattle.yaml_tree.specs.Entries.{entries_of}

-- the nodes of entries, and of all entries of a tree
abbrev pub nodes_of : List EntryView → List NodeId
nodes_of entries = map (λ e. e.node) entries

abbrev pub entry_nodes : Arena → List NodeId
entry_nodes t = nodes_of (entries_of t)

-- These nodes are some of those, in the same order, each at a place of its own.
abbrev pub AreSomeOf : List NodeId → List NodeId → Type 0
AreSomeOf [] all = Unit {0}
AreSomeOf (n ∷ ns) [] = ⊥
AreSomeOf (n ∷ ns) (m ∷ all) = ((n ≡ m) × AreSomeOf ns all) ⊎ AreSomeOf (n ∷ ns) all

-- no node stands there twice
abbrev pub AreDistinct : List NodeId → Type 0
AreDistinct ns = IsDistinct (λ a b. a.0 == b.0) ns
