-- The file around a node, and what stands directly in a node.
use Rattle.std.specs.Prelude.{ℕ, List, Option, map, unwrap_or}
use Rattle.rw_base.specs.Arena.{Arena}
use Rattle.rw_base.specs.Trees.{none, leaf, node, Numbered}
use Rattle.java_lex.specs.declared.class.TheConstants.{END}
use Rattle.java_nodes.specs.Directly.{first_of, kinds_in, names_in, words_in}
use Rattle.java_nodes.specs.Directly.{count_of as times}
use Rattle.j_names.specs.declared.context.UnitContext.{UnitContext}
use Rattle.judging.specs.Source.{source_of, text_at}
use Rattle.type_positions.specs.declared.names.NamedLeaf.{NamedLeaf}
use Rattle.j_attrib.specs.declared.kinds.TheConstants.{DIMENSIONS}

-- a file's tree and its bytes, and where the unit that is judged stands
pub record Around : Type 0 where
  pub tree : Arena
  pub bytes : List ℕ
  pub context : UnitContext

-- the text of a leaf
abbrev pub name_at : Around → ℕ → List ℕ
name_at u i = text_at (source_of u.tree u.bytes) i

-- leaves with their texts
abbrev pub named : Around → List ℕ → List NamedLeaf
named u leaves = map (λ i. record { leaf = i; name = name_at u i }) leaves

-- the names directly in a node, and the first of them
abbrev pub names : Around → Numbered → List ℕ
names u trees = names_in u.tree.leaves trees

abbrev pub first_name : Around → Numbered → Option ℕ
first_name u trees = first_of (names u trees)

-- the class of the first leaf directly in a node
abbrev pub first_word : Around → Numbered → ℕ
first_word u trees = unwrap_or (first_of (words_in u.tree.leaves trees)) END

-- how many nodes of a kind stand directly in a node, and how many `[]`
abbrev pub count_of : ℕ → Numbered → ℕ
count_of kind trees = times kind (kinds_in trees)

abbrev pub dims : Numbered → ℕ
dims trees = count_of DIMENSIONS trees

-- the trees of the first node directly in a node
abbrev pub first_node : Numbered → Numbered
first_node none = none
first_node (leaf i rest) = first_node rest
first_node (node n k own rest) = own
